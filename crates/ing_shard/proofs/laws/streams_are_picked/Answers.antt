use Rattle.ing_labels.specs.Selectors.{selects}
use Rattle.ing_shard.proofs.PickLaws.{there_is}
use Rattle.ing_shard.proofs.laws.streams_are_picked.Goals as goal

pub returns : goal.returns
returns c = λ tenant ms. there_is c.canonical_names_are_decided.ensures c.canonical_names_are_exact.ensures tenant (selects ms)
