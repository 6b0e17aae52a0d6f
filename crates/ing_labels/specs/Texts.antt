-- The bytes of owned texts.
use Rattle.std.specs.Prelude.{List, map}
use Rattle.std.specs.String.{string_bytes}
use Rattle.std.specs.declared.string.String.{String}
use Rattle.ing_labels.specs.Labels.{Pair}

-- the bytes of each name and value
abbrev pub entry_texts : {Z : Type 0} → List (String Z × String Z) → List Pair
entry_texts = map (λ e. (string_bytes e.0, string_bytes e.1))
