-- The labels of a canonical name, one after another.
use Rattle.std.proofs.Common.{◌≡◌, ℕ, List, [], ◌∷◌, ◌++◌, Less, Greater, nat_cmp, refl, ap, ◌∙◌, append_assoc}
use Rattle.std.specs.BTreeMap.{insert_entry}
use Rattle.std.specs.Cmp.Lexicographic.{slice_cmp}
use Rattle.std.specs.FinMap.{entries}
use Rattle.std.specs.Ordering.{match_ordering, ordering_reverse}
use Rattle.std.proofs.lemmas.Cmp.{nat_list_cmp_total}
use Rattle.ing_labels.specs.Labels.{LabelMap, Pair, name_order}
use Rattle.ing_labels.proofs.Rising.{Above, Below, Rising, rising-entries}

above_at : (x : List ℕ) (es : List Pair) (p : Pair) (rest : List Pair) → Above x (es ++ p ∷ rest) → name_order x p.0 ≡ Less
above_at x [] p rest h = h.0
above_at x (e ∷ es) p rest h = above_at x es p rest h.1

-- the names in front of one lie below it
below_next : (es : List Pair) (p : Pair) (rest : List Pair) → Rising (es ++ p ∷ rest) → Below p.0 es
below_next [] p rest h = tt
below_next (e ∷ es) p rest h = (above_at e.0 es p rest h.0, below_next es p rest h.1)

-- a name above all others comes last
insert_last : (es : List Pair) (k v : List ℕ) → Below k es → insert_entry (slice_cmp nat_cmp) es k v ≡ es ++ (k, v) ∷ []
insert_last [] k v h = refl
insert_last (e ∷ es) k v h =
    let after : slice_cmp nat_cmp k e.0 ≡ Greater = nat_list_cmp_total.antisymm k e.0 ∙ ap ordering_reverse h.0 in
    ap (λ o. match_ordering o ((k, v) ∷ e ∷ es) ((e.0, v) ∷ es) (e ∷ insert_entry (slice_cmp nat_cmp) es k v)) after
    ∙ ap (λ x. e ∷ x) (insert_last es k v h.1)

-- of the labels of a map, in order, the next one is put behind those before it
pub labels_next : (m : LabelMap) (before : List Pair) (k v : List ℕ) (left : List Pair) → before ++ (k, v) ∷ left ≡ entries m
    → insert_entry (slice_cmp nat_cmp) before k v ++ left ≡ entries m
labels_next m before k v left all =
    let below : Below k before = below_next before (k, v) left (rw all (rising-entries m)) in
    ap (λ l. l ++ left) (insert_last before k v below) ∙ append_assoc before ((k, v) ∷ []) left ∙ all
