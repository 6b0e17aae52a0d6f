-- What a label map has of the pairs that it is made of.
use Rattle.std.proofs.Common.{◌≡◌, ◌≢◌, ℕ, suc, zero, ◌+◌, ◌<◌, ◌≤◌, length, get_or, take, not, nat_le, nat_lt, filter, position, Some, None, Bool, true, false, cond, ◌&&◌, ◌==◌, List, [], ◌∷◌, refl, sym, ap, ◌∙◌, arith}
use Rattle.std.specs.Ordering.{is_eq}
use Rattle.std.specs.List.{list_all, Contains}
use Rattle.std.specs.Str.{bytes_eq}
use Rattle.std.specs.FinMap.{from_entries, find, len, contains_key, get-from_entries, len-insert, len-empty}
use Rattle.std.proofs.lemmas.Cmp.{nat_list_cmp_total, nat_list_eq_equiv}
use Rattle.std.proofs.lemmas.Map.Text.{is_eq-slice_cmp}
use Rattle.std.proofs.lemmas.Slice.Eq.{bytes_eq-Decides}
use Rattle.std.proofs.lemmas.List.{get_or_default}
use Rattle.std.proofs.lemmas.List.Sums.{list_all-from_AllPass}
use Rattle.std.proofs.lemmas.Bool.{not_from_false, or_parts}
use Rattle.ing_labels.specs.declared.fault.LabelLimits.{LabelLimits}
use Rattle.ing_labels.specs.Labels.{name_order, Pair, has_value, is_named, with_values, first_repeated_name, first_long_name, first_long_value, HoldsPairs, KeepsLimits}
use Rattle.ing_labels.proofs.Places.{none_passes, none_repeats}
use Rattle.ing_labels.proofs.Made.{names-from_entries, values-from_entries}

len-step : (b : Bool) (a n : ℕ) → a ≤ n → cond b a (a + 1) ≤ n + 1
len-step true a n h = omega arith
len-step false a n h = omega arith

len-from_entries-le : (ps : List Pair) → len (from_entries {R = name_order} ps) ≤ length ps
len-from_entries-le [] = let none = len-empty name_order (List ℕ) in omega arith
len-from_entries-le (p ∷ ps) =
    let more = len-insert nat_list_cmp_total (from_entries {R = name_order} ps) p.0 p.1 in
    let within = len-step (contains_key (from_entries {R = name_order} ps) p.0) _ _ (len-from_entries-le ps) in
    omega arith

-- the pairs that pass a test, where no pair passes it and fails another
good_kept : (q bad good : Pair → Bool) → ((p : Pair) → bad p ≡ false → good p ≡ true) → (ps : List Pair) → list_all (λ p. not (q p && bad p)) ps ≡ true → list_all good (filter q ps) ≡ true
good_kept q bad good follows [] all = refl
good_kept q bad good follows (p ∷ ps) all =
    elim (q p) as (λ b. (not (b && bad p) && list_all (λ p. not (q p && bad p)) ps) ≡ true → list_all good (cond b (p ∷ filter q ps) (filter q ps)) ≡ true) [
      | true ↦ λ e. elim (bad p) as (λ c. bad p ≡ c → (not c && list_all (λ p. not (q p && bad p)) ps) ≡ true → (good p && list_all good (filter q ps)) ≡ true) [
        | true ↦ λ is e. absurd (cc)
        | false ↦ λ is e. ap (λ g. g && list_all good (filter q ps)) (follows p is) ∙ good_kept q bad good follows ps e
      ] refl e
      | false ↦ λ e. good_kept q bad good follows ps e
    ] all

none_bad : (p : Pair → Bool) (ps : List Pair) → position p ps ≡ None → list_all (λ x. not (p x)) ps ≡ true
none_bad p ps e = list_all-from_AllPass (λ x. not (p x)) ps (λ k d h. not_from_false _ (none_passes p ps d e k h))

no_longer : (most n : ℕ) → nat_lt most n ≡ false → nat_le n most ≡ true
no_longer most n h = grind arith

-- the limits that were tested
pub keeps_limits : (limits : LabelLimits) (pairs : List Pair) → length (with_values pairs) ≤ limits.names → first_long_name limits.name_bytes pairs ≡ None → first_long_value limits.value_bytes pairs ≡ None → KeepsLimits limits (from_entries (with_values pairs))
keeps_limits limits pairs few names values =
    let fewer = len-from_entries-le (with_values pairs) in
    record {
      count = omega arith;
      names = names-from_entries (λ n. nat_le (length n) limits.name_bytes) (with_values pairs) (good_kept has_value (λ p. nat_lt limits.name_bytes (length p.0)) (λ p. nat_le (length p.0) limits.name_bytes) (λ p h. no_longer _ _ h) pairs (none_bad _ pairs names));
      values = values-from_entries (λ v. nat_le (length v) limits.value_bytes) (with_values pairs) (good_kept has_value (λ p. nat_lt limits.value_bytes (length p.1)) (λ p. nat_le (length p.1) limits.value_bytes) (λ p h. no_longer _ _ h) pairs (none_bad _ pairs values));
    }

same_name : (a b : List ℕ) → is_eq (name_order a b) ≡ true → a ≡ b
same_name a b e = (bytes_eq-Decides a b).0 (sym (is_eq-slice_cmp a b) ∙ e)

is_itself : (a : List ℕ) → is_eq (name_order a a) ≡ true
is_itself a = is_eq-slice_cmp a a ∙ (bytes_eq-Decides a a).1 refl

-- what is found in the pairs with a value is one of the pairs
contains_found : (name value : List ℕ) (ps : List Pair) → find name_order name (with_values ps) ≡ Some value → Contains ps (name, value)
contains_found name value [] e = absurd (cc)
contains_found name value (p ∷ ps) e =
    let later = λ (f : find name_order name (with_values ps) ≡ Some value).
    let there = contains_found name value ps f in
    let it : Contains (p ∷ ps) (name, value) = (suc there.0, omega arith, there.2) in it in
    elim (has_value p) as (λ b. find name_order name (cond b (p ∷ with_values ps) (with_values ps)) ≡ Some value → Contains (p ∷ ps) (name, value)) [
      | true ↦ λ e. elim (is_eq (name_order name p.0)) as (λ b. is_eq (name_order name p.0) ≡ b → cond b (Some p.1) (find name_order name (with_values ps)) ≡ Some value → Contains (p ∷ ps) (name, value)) [
        | true ↦ λ same is.
            let here : p ≡ (name, value) = ap (λ n. (n, p.1)) (sym (same_name name p.0 same)) ∙ ap (λ v. (name, v)) (cc) in
            (0, omega arith, here)
        | false ↦ λ other f. later f
      ] refl e
      | false ↦ λ e. later e
    ] e

-- a pair whose name no pair before it has is found, where it has a value
found_at : (ps : List Pair) (k : ℕ) (name value : List ℕ) → k < length ps → get_or ps k (name, value) ≡ (name, value) → is_named name (take k ps) ≡ false → has_value (name, value) ≡ true → find name_order name (with_values ps) ≡ Some value
found_at [] k name value within here first valued = absurd (omega arith)
found_at (p ∷ ps) zero name value within here first valued =
    ap (λ q. find name_order name (cond (has_value q) (q ∷ with_values ps) (with_values ps))) here
    ∙ ap (λ b. find name_order name (cond b ((name, value) ∷ with_values ps) (with_values ps))) valued
    ∙ ap (λ b. cond b (Some value) (find name_order name (with_values ps))) (is_itself name)
found_at (p ∷ ps) (suc k) name value within here first valued =
    let parts : (bytes_eq p.0 name ≡ false) × (is_named name (take k ps) ≡ false) = or_parts _ _ first in
    let rest = found_at ps k name value (omega arith) here parts.1 valued in
    let other : is_eq (name_order name p.0) ≡ false = is_eq-slice_cmp name p.0 ∙ nat_list_eq_equiv.symm name p.0 ∙ parts.0 in
    elim (has_value p) as (λ b. find name_order name (cond b (p ∷ with_values ps) (with_values ps)) ≡ Some value) [
      | true ↦ ap (λ b. cond b (Some p.1) (find name_order name (with_values ps))) other ∙ rest
      | false ↦ rest
    ]

some_length : (n : ℕ) → not (suc n == 0) ≡ true
some_length n = grind arith

valued : (value : List ℕ) → value ≢ [] → not (length value == 0) ≡ true
valued [] some = absurd (some refl)
valued (b ∷ value) some = some_length (length value)

-- the pairs of a list whose names differ
pub holds_pairs : (pairs : List Pair) → first_repeated_name pairs ≡ None → HoldsPairs pairs (from_entries (with_values pairs))
holds_pairs pairs apart name value some = (
  λ e. contains_found name value pairs (sym (get-from_entries nat_list_cmp_total (with_values pairs) name) ∙ e),
  λ there.
      let here = ap (λ p. p.0) (get_or_default pairs there.0 ([], []) (name, value) there.1 ∙ there.2) in
      let first : is_named name (take there.0 pairs) ≡ false = ap (λ n. is_named n (take there.0 pairs)) (sym here) ∙ none_repeats pairs apart there.0 there.1 in
      get-from_entries nat_list_cmp_total (with_values pairs) name ∙ found_at pairs there.0 name value there.1 there.2 first (valued value some),
)
