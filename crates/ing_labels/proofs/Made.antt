-- The map that a list of pairs makes.
use Rattle.std.proofs.Common.{◌≡◌, ◌≢◌, ℕ, ◌+◌, ◌<◌, length, get_or, take, not, All, Some, None, Bool, true, false, cond, ◌&&◌, ◌==◌, List, [], ◌∷◌, ◌++◌, refl, sym, ap, ◌∙◌, append-nil}
use Rattle.std.specs.declared.cmp.Ordering.TheVariants.{Less, Equal, Greater}
use Rattle.std.specs.Ordering.{nat_cmp, is_eq, match_ordering}
use Rattle.std.specs.Cmp.Lexicographic.{slice_cmp}
use Rattle.std.specs.List.{list_all}
use Rattle.std.specs.String.{string_bytes, string_cmp}
use Rattle.std.specs.declared.string.String.{String}
use Rattle.std.specs.BTreeMap.{insert_entry}
use Rattle.std.specs.FinMap.{entries, from_entries, from_sorted, empty, find, put, entries-insert, entries-from_sorted, entries_sorted, same_entries_map, from_entries_push, len-empty, len-entries, slice_cmp-IsAntisymmetric, nat_cmp-IsAntisymmetric}
use Rattle.std.specs.FinMap.Entries.{by_order}
use Rattle.std.proofs.lemmas.Cmp.{nat_list_cmp_total, nat_list_eq_equiv}
use Rattle.std.proofs.lemmas.Map.Text.{is_eq-slice_cmp}
use Rattle.std.proofs.lemmas.List.Elements.{All-filter, filter_more, filter_passes}
use Rattle.std.proofs.lemmas.List.Sums.{list_all-from_AllPass}
use Rattle.std.proofs.lemmas.List.{nil_from_length}
use Rattle.std.proofs.lemmas.Bool.{and_from, and_parts, not-false, or_parts}
use Rattle.ing_labels.specs.Names.{is_label_name}
use Rattle.ing_labels.specs.Labels.{name_order, LabelMap, Pair, has_value, IsLabelSet, is_named, with_values, first_bad_name, first_repeated_name}
use Rattle.ing_labels.specs.Texts.{entry_texts}
use Rattle.ing_labels.proofs.Places.{none_passes, none_repeats}

pub entries-empty : entries (empty {X = List ℕ} {R = name_order}) ≡ []
entries-empty = nil_from_length _ (sym (len-entries (empty {X = List ℕ} {R = name_order})) ∙ len-empty name_order (List ℕ))

-- one more entry in its place
pub texts-insert_entry : {Z : Type 0} (es : List (String Z × String Z)) (k v : String Z) → entry_texts (insert_entry string_cmp es k v) ≡ put name_order (string_bytes k) (string_bytes v) (entry_texts es)
texts-insert_entry [] k v = refl
texts-insert_entry (e ∷ es) k v =
    elim (slice_cmp nat_cmp (string_bytes k) (string_bytes e.0)) as (λ r. entry_texts (match_ordering r ((k, v) ∷ e ∷ es) ((e.0, v) ∷ es) (e ∷ insert_entry string_cmp es k v)) ≡ by_order r ((string_bytes k, string_bytes v) ∷ entry_texts (e ∷ es)) ((string_bytes e.0, string_bytes v) ∷ entry_texts es) ((string_bytes e.0, string_bytes e.1) ∷ put name_order (string_bytes k) (string_bytes v) (entry_texts es))) [
      | Less ↦ refl
      | Equal ↦ refl
      | Greater ↦ ap (λ ts. (string_bytes e.0, string_bytes e.1) ∷ ts) (texts-insert_entry es k v)
    ]

-- a name that no pair has is not found
find_unnamed : (name : List ℕ) (ps : List Pair) → is_named name ps ≡ false → find name_order name (with_values ps) ≡ None
find_unnamed name [] unnamed = refl
find_unnamed name (p ∷ ps) unnamed =
    let parts = or_parts _ _ unnamed in
    let other : is_eq (name_order name p.0) ≡ false = is_eq-slice_cmp name p.0 ∙ nat_list_eq_equiv.symm name p.0 ∙ parts.0 in
    let rest = find_unnamed name ps parts.1 in
    elim (has_value p) as (λ b. find name_order name (cond b (p ∷ with_values ps) (with_values ps)) ≡ None) [
      | true ↦ ap (λ b. cond b (Some p.1) (find name_order name (with_values ps))) other ∙ rest
      | false ↦ rest
    ]

-- one more pair with a value
pub kept_more : {Z : Type 0} (pairs : List Pair) (i : ℕ) (es : List (String Z × String Z)) (k v : String Z) → i < length pairs → first_repeated_name pairs ≡ None → entry_texts es ≡ entries (from_entries {R = name_order} (with_values (take i pairs))) → get_or pairs i ([], []) ≡ (string_bytes k, string_bytes v) → has_value (string_bytes k, string_bytes v) ≡ true → entry_texts (insert_entry string_cmp es k v) ≡ entries (from_entries {R = name_order} (with_values (take (i + 1) pairs)))
kept_more pairs i es k v within apart so_far here valued =
    let p : Pair = (string_bytes k, string_bytes v) in
    let longer : with_values (take (i + 1) pairs) ≡ with_values (take i pairs) ++ p ∷ [] =
    filter_more has_value pairs i ([], []) within ∙ ap (λ q. with_values (take i pairs) ++ cond (has_value q) (q ∷ []) []) here ∙ ap (λ b. with_values (take i pairs) ++ cond b (p ∷ []) []) valued in
    let unnamed : is_named (string_bytes k) (take i pairs) ≡ false = ap (λ q. is_named q.0 (take i pairs)) (sym here) ∙ none_repeats pairs apart i within in
    let pushed = from_entries_push nat_list_cmp_total (slice_cmp-IsAntisymmetric nat_cmp-IsAntisymmetric) (with_values (take i pairs)) p.0 p.1 (find_unnamed p.0 (take i pairs) unnamed) in
    texts-insert_entry es k v
    ∙ ap (put name_order p.0 p.1) so_far
    ∙ sym (ap (λ ps. entries (from_entries {R = name_order} ps)) longer ∙ ap entries pushed ∙ entries-insert nat_list_cmp_total (from_entries (with_values (take i pairs))) p.0 p.1)

-- one more pair without one
pub kept_same : (pairs : List Pair) (i : ℕ) → i < length pairs → has_value (get_or pairs i ([], [])) ≡ false → with_values (take (i + 1) pairs) ≡ with_values (take i pairs)
kept_same pairs i within valueless =
    filter_more has_value pairs i ([], []) within ∙ ap (λ b. with_values (take i pairs) ++ cond b (get_or pairs i ([], []) ∷ []) []) valueless ∙ append-nil _

-- the map of a map's entries
pub from_sorted-entries : (m : LabelMap) → from_sorted (entries m) ≡ m
from_sorted-entries m = same_entries_map _ _ (entries-from_sorted name_order (entries m) (entries_sorted m))

-- a test of the names, and one of the values
names-put : (f : List ℕ → Bool) (k v : List ℕ) (es : List Pair) → f k ≡ true → list_all (λ e. f e.0) es ≡ true → list_all (λ e. f e.0) (put name_order k v es) ≡ true
names-put f k v [] here others = ap (λ b. b && true) here
names-put f k v (e ∷ es) here others =
    let parts = and_parts _ _ others in
    elim (name_order k e.0) as (λ r. list_all (λ q. f q.0) (by_order r ((k, v) ∷ e ∷ es) ((e.0, v) ∷ es) (e ∷ put name_order k v es)) ≡ true) [
      | Less ↦ and_from _ _ here others
      | Equal ↦ others
      | Greater ↦ and_from _ _ parts.0 (names-put f k v es here parts.1)
    ]

values-put : (g : List ℕ → Bool) (k v : List ℕ) (es : List Pair) → g v ≡ true → list_all (λ e. g e.1) es ≡ true → list_all (λ e. g e.1) (put name_order k v es) ≡ true
values-put g k v [] here others = ap (λ b. b && true) here
values-put g k v (e ∷ es) here others =
    let parts = and_parts _ _ others in
    elim (name_order k e.0) as (λ r. list_all (λ q. g q.1) (by_order r ((k, v) ∷ e ∷ es) ((e.0, v) ∷ es) (e ∷ put name_order k v es)) ≡ true) [
      | Less ↦ and_from _ _ here others
      | Equal ↦ and_from _ _ here parts.1
      | Greater ↦ and_from _ _ parts.0 (values-put g k v es here parts.1)
    ]

pub names-from_entries : (f : List ℕ → Bool) (ps : List Pair) → list_all (λ e. f e.0) ps ≡ true → list_all (λ e. f e.0) (entries (from_entries {R = name_order} ps)) ≡ true
names-from_entries f [] all = ap (list_all (λ e. f e.0)) entries-empty
names-from_entries f (p ∷ ps) all =
    let parts = and_parts _ _ all in
    ap (list_all (λ e. f e.0)) (entries-insert nat_list_cmp_total (from_entries ps) p.0 p.1) ∙ names-put f p.0 p.1 _ parts.0 (names-from_entries f ps parts.1)

pub values-from_entries : (g : List ℕ → Bool) (ps : List Pair) → list_all (λ e. g e.1) ps ≡ true → list_all (λ e. g e.1) (entries (from_entries {R = name_order} ps)) ≡ true
values-from_entries g [] all = ap (list_all (λ e. g e.1)) entries-empty
values-from_entries g (p ∷ ps) all =
    let parts = and_parts _ _ all in
    ap (list_all (λ e. g e.1)) (entries-insert nat_list_cmp_total (from_entries ps) p.0 p.1) ∙ values-put g p.0 p.1 _ parts.0 (values-from_entries g ps parts.1)

put-some : (k v : List ℕ) (es : List Pair) → put name_order k v es ≢ []
put-some k v [] e = cc
put-some k v (x ∷ es) e =
    elim (name_order k x.0) as (λ r. by_order r ((k, v) ∷ x ∷ es) ((x.0, v) ∷ es) (x ∷ put name_order k v es) ≡ [] → ⊥) [
      | Less ↦ λ e. cc
      | Equal ↦ λ e. cc
      | Greater ↦ λ e. cc
    ] e

from_entries-some : (ps : List Pair) → (length ps == 0) ≡ false → entries (from_entries {R = name_order} ps) ≢ []
from_entries-some [] some = absurd (cc)
from_entries-some (p ∷ ps) some = λ e. put-some p.0 p.1 _ (sym (entries-insert nat_list_cmp_total (from_entries ps) p.0 p.1) ∙ e)

-- the labels of a list of pairs with label names, of which one has a value
pub label_set : (pairs : List Pair) → first_bad_name pairs ≡ None → (length (with_values pairs) == 0) ≡ false → IsLabelSet (from_entries (with_values pairs))
label_set pairs good some =
    let named : All (λ p. is_label_name p.0 ≡ true) pairs = λ k d h. not-false _ (none_passes (λ p. not (is_label_name p.0)) pairs d good k h) in
    record {
      names = names-from_entries is_label_name (with_values pairs) (list_all-from_AllPass (λ p. is_label_name p.0) (with_values pairs) (All-filter has_value (λ p. is_label_name p.0 ≡ true) pairs named));
      values = values-from_entries (λ v. not (length v == 0)) (with_values pairs) (list_all-from_AllPass has_value (with_values pairs) (filter_passes has_value pairs));
      some = from_entries-some (with_values pairs) some;
    }

-- where all pairs have a value, all are kept
pub kept_all : (ps : List Pair) → list_all has_value ps ≡ true → with_values ps ≡ ps
kept_all [] all = refl
kept_all (p ∷ ps) all =
    let parts = and_parts _ _ all in
    ap (λ b. cond b (p ∷ with_values ps) (with_values ps)) parts.0 ∙ ap (λ rest. p ∷ rest) (kept_all ps parts.1)
