-- Whether a text is a canonical name.
use Rattle.std.specs.Prelude.{◌≡◌, Bool, true, false, ℕ, List, Option, Some, None, is_some}
use Rattle.ing_labels.specs.Labels.{LabelMap, IsLabelSet}
use Rattle.ing_labels.specs.Canonical.{canonical_of}
use Rattle.ing_labels.specs.CanonicalReading.{Reading, Start, run_from, closed_of}

-- a canonical name is read whole
abbrev pub is_read_whole : Option Reading → Bool
is_read_whole None = false
is_read_whole (Some r) = is_some (closed_of r)

-- the text is the canonical name of some labels, whatever their number and length
unfoldable pub is_canonical : List ℕ → Bool
is_canonical text = is_read_whole (run_from (Some Start) text)

-- the test says so of exactly the canonical names of labels
pub record CanonicalNamesAreDecided : Type 0 where
  pub each : (m : LabelMap) → IsLabelSet m → is_canonical (canonical_of m) ≡ true
  pub only : (text : List ℕ) → is_canonical text ≡ true → (m : LabelMap) × IsLabelSet m × (text ≡ canonical_of m)
