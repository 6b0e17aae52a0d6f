-- The test for canonical names says what it is to say.
use Rattle.std.proofs.Common.{◌≡◌, true, ℕ, List, Option, Some, None, refl, ap}
use Rattle.std.specs.FinMap.{from_sorted}
use Rattle.ing_labels.specs.Labels.{LabelMap, IsLabelSet, name_order}
use Rattle.ing_labels.specs.Canonical.{canonical_of}
use Rattle.ing_labels.specs.CanonicalReading.{Reading, Start, Next, InName, Compared, InValue, Escaped, Matched, Comma, Closed, run_from}
use Rattle.ing_labels.specs.CanonicalTests.{is_canonical, is_read_whole}
use Rattle.ing_labels.proofs.CanonicalWhole.{runs_whole, labels_of_text}

pub each_is_canonical : (m : LabelMap) → IsLabelSet m → is_canonical (canonical_of m) ≡ true
unfolding is_canonical
each_is_canonical m h = ap is_read_whole (runs_whole m h)

only_from : (text : List ℕ) (o : Option Reading) → run_from (Some Start) text ≡ o → is_read_whole o ≡ true → (m : LabelMap) × IsLabelSet m × (text ≡ canonical_of m)
only_from text (Some (Closed ps)) e whole = let all = labels_of_text text ps e in (from_sorted {R = name_order} ps, all.1, all.2)
only_from text (Some Start) e whole = absurd cc
only_from text (Some (Next _)) e whole = absurd cc
only_from text (Some (InName _ _ _)) e whole = absurd cc
only_from text (Some (Compared _ _)) e whole = absurd cc
only_from text (Some (InValue _ _ _)) e whole = absurd cc
only_from text (Some (Escaped _ _ _)) e whole = absurd cc
only_from text (Some (Matched _)) e whole = absurd cc
only_from text (Some (Comma _)) e whole = absurd cc
only_from text None e whole = absurd cc

pub only_canonical : (text : List ℕ) → is_canonical text ≡ true → (m : LabelMap) × IsLabelSet m × (text ≡ canonical_of m)
unfolding is_canonical
only_canonical text whole = only_from text (run_from (Some Start) text) refl whole
