use Rattle.ing_labels.proofs.Decided.{each_is_canonical, only_canonical}
use Rattle.ing_labels.proofs.laws.canonical_names_are_decided.Goals as goal

pub returns : goal.returns
returns c = record { each = each_is_canonical; only = only_canonical }
