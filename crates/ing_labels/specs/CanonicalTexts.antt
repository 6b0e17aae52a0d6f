-- Canonical names as texts that are read back.
use Rattle.std.specs.Prelude.{◌≡◌, ◌≤◌, ◌<◌, ◌+◌, ℕ, List, ◌++◌, length, take}
use Rattle.std.specs.FinMap.{from_sorted}
use Rattle.ing_labels.specs.Labels.{LabelMap, Pair, IsLabelSet, AreLabels}
use Rattle.ing_labels.specs.Canonical.{canonical_of}
use Rattle.ing_labels.specs.declared.text_fault.TextFault.{TextFault}
use Rattle.ing_labels.specs.declared.text_fault.TextFault.TheVariants.{NoMemory, NotCanonical, BadSelector, TooWide}

-- the canonical name of some labels begins with this text
abbrev pub BeginsCanonical : List ℕ → Type 0
BeginsCanonical text = (m : LabelMap) × (rest : List ℕ) × IsLabelSet m × (text ++ rest ≡ canonical_of m)

-- the text is the canonical name of no labels, and its first `at` bytes are its longest front with
-- which some canonical name begins
pub record IsNotCanonical (text : List ℕ) (at : ℕ) : Type 0 where
  pub refused : (m : LabelMap) → IsLabelSet m → text ≡ canonical_of m → ⊥
  pub within : at ≤ length text
  pub begins : BeginsCanonical (take at text)
  pub longest : at < length text → BeginsCanonical (take (at + 1) text) → ⊥

-- the text is the canonical name of no labels
abbrev pub IsCanonicalFault : List ℕ → TextFault → Type 0
IsCanonicalFault text NoMemory = Unit {0}
IsCanonicalFault text (NotCanonical at) = IsNotCanonical text at
IsCanonicalFault text (BadSelector _) = ⊥
IsCanonicalFault text TooWide = ⊥

-- these pairs, in the order of their names, are labels whose canonical name is the text
pub record IsRead (text : List ℕ) (ps : List Pair) : Type 0 where
  pub labels : AreLabels ps
  pub spelt : text ≡ canonical_of (from_sorted ps)
