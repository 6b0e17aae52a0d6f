-- The value of each label, also of an absent one.
use Rattle.std.specs.Prelude.{ℕ, List, []}
use Rattle.std.specs.Option.{unwrap_or}
use Rattle.std.specs.FinMap.{get}
use Rattle.ing_labels.specs.Labels.{LabelMap}

-- the value of a label: an absent label has the empty value
abbrev pub label_value : LabelMap → List ℕ → List ℕ
label_value m name = unwrap_or (get m name) []
