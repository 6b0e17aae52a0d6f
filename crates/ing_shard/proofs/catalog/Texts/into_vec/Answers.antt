use Rattle.std.proofs.Common.{subst}
use Rattle.std.specs.List.Sorted.{IsStrictlySortedBy}
use Rattle.ing_labels.specs.Labels.{name_order}
use Rattle.ing_shard.proofs.TellLaws.{texts_rise}
use Rattle.ing_shard.proofs.catalog.Texts.into_vec.Goals as goal

pub returns-clause-rising : goal.returns-clause-rising
returns-clause-rising c = subst (IsStrictlySortedBy name_order) c.self.view_is (texts_rise c.self.inside.set.keys c.len.ensures.ordered)
