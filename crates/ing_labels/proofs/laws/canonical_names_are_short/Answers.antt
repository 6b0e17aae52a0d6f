use Rattle.ing_labels.proofs.ShortNames.{name_length}
use Rattle.ing_labels.proofs.laws.canonical_names_are_short.Goals as goal

pub returns : goal.returns
returns c = name_length
