-- What the tests of a list of pairs say of the map that it makes.
use Rattle.std.proofs.Common.{◌≡◌, ℕ, suc, zero, ◌<◌, ◌≤◌, Bool, true, false, cond, ◌||◌, ◌==◌, nat_lt, List, [], ◌∷◌, length, get_or, take, Option, Some, None, Result, Ok, Err, refl, sym, ap, subst, ◌∙◌, arith}
use lib.Dec.{T}
use Rattle.std.specs.Ordering.{is_eq}
use Rattle.std.specs.List.{list_all}
use Rattle.std.specs.declared.cmp.Ordering.TheVariants.{Less}
use Rattle.std.specs.FinMap.{entries, from_entries, from_sorted, put, entries-insert, entries-from_sorted, same_entries_map}
use Rattle.std.specs.FinMap.Entries.{by_order, is_sorted}
use Rattle.std.proofs.lemmas.Cmp.{nat_list_cmp_total}
use Rattle.std.proofs.lemmas.Map.Text.{is_eq-slice_cmp}
use Rattle.ing_labels.specs.Labels.{LabelMap, Pair, name_order, is_named, has_value, with_values, first_bad_name, first_repeated_name, or_else_fault, kept_labels, labels_of, IsLabelSet, AreLabels, HoldsPairs, KeepsLimits}
use Rattle.ing_labels.specs.declared.fault.LabelLimits.{LabelLimits}
use Rattle.ing_labels.specs.declared.fault.LabelFault.{LabelFault}
use Rattle.ing_labels.proofs.Places.{no_repeat}
use Rattle.ing_labels.proofs.Made.{entries-empty, from_sorted-entries, label_set, kept_all}
use Rattle.ing_labels.proofs.Kept.{holds_pairs, keeps_limits}
use Rattle.ing_labels.proofs.Rising.{Above, Rising, Below, rising_from, sorted_from}

passed : (o : Option ℕ) (fault : ℕ → LabelFault) (later : Result LabelMap LabelFault) (m : LabelMap) → or_else_fault o fault later ≡ Ok m → (o ≡ None) × (later ≡ Ok m)
passed (Some at) fault later m e = absurd (cc)
passed None fault later m e = (refl, e)

passed_test : (b : Bool) (fault : LabelFault) (later : Result LabelMap LabelFault) (m : LabelMap) → cond b (Err fault) later ≡ Ok m → (b ≡ false) × (later ≡ Ok m)
passed_test true fault later m e = absurd (cc)
passed_test false fault later m e = (refl, e)

at_most : (a b : ℕ) → nat_lt a b ≡ false → b ≤ a
at_most a b e = grind (arith, e)

-- what a map is that a list of pairs makes
pub record Tested (limits : LabelLimits) (given : List Pair) (m : LabelMap) : Type 0 where
  pub is : from_entries (with_values given) ≡ m
  pub label_set : IsLabelSet m
  pub pairs : HoldsPairs given m
  pub kept : KeepsLimits limits m

-- the pairs that are kept
pub kept_some : (limits : LabelLimits) (pairs : List Pair) (m : LabelMap) → kept_labels limits pairs ≡ Ok m → (length (with_values pairs) == 0) ≡ false
kept_some limits pairs m e = (passed_test _ _ _ m e).0

pub tested : (limits : LabelLimits) (pairs : List Pair) (m : LabelMap) → labels_of limits pairs ≡ Ok m → Tested limits pairs m
tested limits pairs m e =
    let good = passed _ _ _ m e in
    let apart = passed _ _ _ m good.1 in
    let some = passed_test _ _ _ m apart.1 in
    let few = passed_test _ _ _ m some.1 in
    let names = passed _ _ _ m few.1 in
    let values = passed _ _ _ m names.1 in
    let is : from_entries (with_values pairs) ≡ m = cc (values.1) in
    record {
      is = is;
      label_set = subst IsLabelSet is (label_set pairs good.0 some.0);
      pairs = subst (HoldsPairs pairs) is (holds_pairs pairs apart.0);
      kept = subst (KeepsLimits limits) is (keeps_limits limits pairs (at_most _ _ few.0) names.0 values.0);
    }

-- names that rise differ
above_at : (x : List ℕ) (ps : List Pair) (k : ℕ) (d : Pair) → Above x ps → k < length ps → name_order x (get_or ps k d).0 ≡ Less
above_at x [] k d above within = absurd (omega arith)
above_at x (p ∷ ps) zero d above within = above.0
above_at x (p ∷ ps) (suc k) d above within = above_at x ps k d above.1 (omega arith)

below_at : (ps : List Pair) (k : ℕ) (d : Pair) → Rising ps → k < length ps → Below (get_or ps k d).0 (take k ps)
below_at [] k d rising within = absurd (omega arith)
below_at (p ∷ ps) zero d rising within = tt
below_at (p ∷ ps) (suc k) d rising within = (above_at p.0 ps k d rising.0 (omega arith), below_at ps k d rising.1 (omega arith))

unnamed : (x : List ℕ) (es : List Pair) → Below x es → is_named x es ≡ false
unnamed x [] below = refl
unnamed x (e ∷ es) below = ap (λ b. b || is_named x es) (sym (is_eq-slice_cmp e.0 x) ∙ ap is_eq below.0) ∙ unnamed x es below.1

rising_apart : (pairs : List Pair) → Rising pairs → first_repeated_name pairs ≡ None
rising_apart pairs rising = no_repeat pairs (λ k within. unnamed _ _ (below_at pairs k ([], []) rising within))

-- the map of names that rise has the pairs as they are
put_first : (k v : List ℕ) (es : List Pair) → Above k es → put name_order k v es ≡ (k, v) ∷ es
put_first k v [] above = refl
put_first k v (e ∷ es) above = ap (λ o. by_order o ((k, v) ∷ e ∷ es) ((e.0, v) ∷ es) (e ∷ put name_order k v es)) above.0

entries_rising : (es : List Pair) → Rising es → entries (from_entries {R = name_order} es) ≡ es
entries_rising [] rising = entries-empty
entries_rising (e ∷ es) rising =
    entries-insert nat_list_cmp_total (from_entries es) e.0 e.1 ∙ ap (put name_order e.0 e.1) (entries_rising es rising.1) ∙ put_first e.0 e.1 es rising.0

above_kept : (x : List ℕ) (es : List Pair) → Above x es → Above x (with_values es)
above_kept x [] above = tt
above_kept x (e ∷ es) above =
    elim (has_value e) as (λ b. Above x (cond b (e ∷ with_values es) (with_values es))) [ true ↦ (above.0, above_kept x es above.1) | false ↦ above_kept x es above.1 ]

rising_kept : (es : List Pair) → Rising es → Rising (with_values es)
rising_kept [] rising = tt
rising_kept (e ∷ es) rising =
    elim (has_value e) as (λ b. Rising (cond b (e ∷ with_values es) (with_values es))) [ true ↦ (above_kept e.0 es rising.0, rising_kept es rising.1) | false ↦ rising_kept es rising.1 ]

-- pairs in order are the labels that the list makes
pub record InOrder (pairs : List Pair) : Type 0 where
  pub apart : first_repeated_name pairs ≡ None
  pub in_order : entries (from_sorted {R = name_order} (with_values pairs)) ≡ with_values pairs
  pub is : from_sorted {R = name_order} (with_values pairs) ≡ from_entries (with_values pairs)

pub in_order : (pairs : List Pair) → is_sorted name_order pairs ≡ true → InOrder pairs
in_order pairs sorted =
    let rising = rising_from pairs (subst T (sym sorted) tt) in
    let kept = rising_kept pairs rising in
    let same = entries-from_sorted name_order (with_values pairs) (sorted_from _ kept) in
    record { apart = rising_apart pairs rising; in_order = same; is = same_entries_map _ _ (same ∙ sym (entries_rising _ kept)) }

pub labels_in_order : (limits : LabelLimits) (pairs : List Pair) → first_bad_name pairs ≡ None → is_sorted name_order pairs ≡ true → kept_labels limits pairs ≡ Ok (from_entries (with_values pairs)) → AreLabels (with_values pairs)
labels_in_order limits pairs good sorted kept =
    let it = in_order pairs sorted in
    record { in_order = it.in_order; labels = subst IsLabelSet (sym it.is) (label_set pairs good (kept_some limits pairs _ kept)) }

-- what the later tests say, where the earlier ones are passed
pub labels_of-kept : (limits : LabelLimits) (pairs : List Pair) (said : Result LabelMap LabelFault) → first_bad_name pairs ≡ None → first_repeated_name pairs ≡ None → kept_labels limits pairs ≡ said → labels_of limits pairs ≡ said
labels_of-kept limits pairs said good apart kept = grind (arith, good, apart, kept)

pub made_in_order : (limits : LabelLimits) (pairs : List Pair) (m : LabelMap) → first_bad_name pairs ≡ None → is_sorted name_order pairs ≡ true → kept_labels limits pairs ≡ Ok (from_entries (with_values pairs)) → m ≡ from_sorted (with_values pairs) → labels_of limits pairs ≡ Ok m
made_in_order limits pairs m good sorted kept is =
    let it = in_order pairs sorted in
    labels_of-kept limits pairs (Ok m) good it.apart (kept ∙ ap Ok (sym (is ∙ it.is)))

-- labels in order have values
pub whole_labels : (ps qs : List Pair) → AreLabels ps → qs ≡ ps → with_values qs ≡ ps
whole_labels ps qs labels is = ap with_values is ∙ kept_all ps (ap (list_all has_value) (sym labels.in_order) ∙ labels.labels.values)

pub entries_are_labels : (m : LabelMap) → IsLabelSet m → AreLabels (entries m)
entries_are_labels m set =
    let same = from_sorted-entries m in
    record { in_order = ap entries same; labels = subst IsLabelSet (sym same) set }

pub not_both : (m : LabelMap) (e : LabelFault) {said : Result LabelMap LabelFault} → said ≡ Ok m → said ≡ Err e → ⊥
not_both m e ok err = cc (sym ok ∙ err)
