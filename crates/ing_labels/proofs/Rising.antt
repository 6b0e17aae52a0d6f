-- Pairs whose names rise.
use Rattle.std.proofs.Common.{◌≡◌, ℕ, suc, zero, ◌+◌, ◌-◌, ◌<◌, ◌≤◌, length, get_or, drop, Bool, true, false, not, ◌&&◌, List, [], ◌∷◌, ◌++◌, Some, refl, sym, ap, subst, ◌∙◌, arith}
use Rattle.std.specs.declared.cmp.Ordering.{Ordering}
use Rattle.std.specs.declared.cmp.Ordering.TheVariants.{Less, Equal, Greater}
use Rattle.std.specs.Ordering.{is_lt, is_ge, ordering_reverse}
use lib.Dec.{T}
use Rattle.std.specs.List.{slice_get}
use Rattle.std.proofs.Math.Seq.{drop-cons}
use Rattle.std.specs.String.{string_bytes}
use Rattle.std.specs.declared.string.String.{String}
use Rattle.std.specs.FinMap.{put, entries, entries_sorted}
use Rattle.std.specs.FinMap.Entries.{by_order, is_sorted, below_all}
use Rattle.std.proofs.lemmas.Cmp.{nat_list_cmp_total}
use Rattle.ing_labels.specs.Labels.{Pair, name_order, LabelMap}
use Rattle.ing_labels.specs.Texts.{entry_texts}
use Rattle.ing_labels.specs.CanonicalReading.{last_name}

-- each of these names lies above x
abbrev pub Above : List ℕ → List Pair → Type 0
Above x [] = Unit {0}
Above x (e ∷ es) = (name_order x e.0 ≡ Less) × Above x es

abbrev pub Rising : List Pair → Type 0
Rising [] = Unit {0}
Rising (e ∷ es) = Above e.0 es × Rising es

-- each of these names lies below x
abbrev pub Below : List ℕ → List Pair → Type 0
Below x [] = Unit {0}
Below x (e ∷ es) = (name_order e.0 x ≡ Less) × Below x es

both : (a b : Bool) → T a → T b → T (a && b)
both true b p q = q
both false b p q = p

first : (a b : Bool) → T (a && b) → T a
first true b p = tt
first false b p = p

second : (a b : Bool) → T (a && b) → T b
second true b p = p
second false b p = absurd p

is_less : (o : Ordering) → T (is_lt o) → o ≡ Less
is_less Less p = refl
is_less Equal p = absurd p
is_less Greater p = absurd p

above_from : (x : List ℕ) (es : List Pair) → T (below_all name_order x es) → Above x es
above_from x [] h = tt
above_from x (e ∷ es) h = (is_less _ (first _ _ h), above_from x es (second _ _ h))

pub rising_from : (es : List Pair) → T (is_sorted name_order es) → Rising es
rising_from [] h = tt
rising_from (e ∷ es) h = (above_from e.0 es (first _ _ h), rising_from es (second _ _ h))

pub rising-entries : (m : LabelMap) → Rising (entries m)
rising-entries m = rising_from (entries m) (entries_sorted m)

above_to : (x : List ℕ) (es : List Pair) → Above x es → T (below_all name_order x es)
above_to x [] h = tt
above_to x (e ∷ es) h = both _ _ (subst (λ o. T (is_lt o)) (sym h.0) tt) (above_to x es h.1)

pub sorted_from : (es : List Pair) → Rising es → T (is_sorted name_order es)
sorted_from [] h = tt
sorted_from (e ∷ es) h = both _ _ (above_to e.0 es h.0) (sorted_from es h.1)

-- a name above the last one lies above all
pub below_last : (es : List Pair) (k : List ℕ) → Rising es → name_order (last_name es) k ≡ Less → Below k es
below_last [] k h e = tt
below_last (p ∷ []) k h e = (e, tt)
below_last (p ∷ q ∷ es) k h e =
    let rest = below_last (q ∷ es) k h.1 e in
    (nat_list_cmp_total.trans p.0 q.0 k h.0.0 rest.0, rest)

pub put_last : (es : List Pair) (k v : List ℕ) → Below k es → put name_order k v es ≡ es ++ (k, v) ∷ []
put_last [] k v h = refl
put_last (e ∷ es) k v h =
    let after : name_order k e.0 ≡ Greater = nat_list_cmp_total.antisymm k e.0 ∙ ap ordering_reverse h.0 in
    ap (λ o. by_order o ((k, v) ∷ e ∷ es) ((e.0, v) ∷ es) (e ∷ put name_order k v es)) after ∙ ap (λ x. e ∷ x) (put_last es k v h.1)

above_more : (x : List ℕ) (es : List Pair) (k v : List ℕ) → Above x es → name_order x k ≡ Less → Above x (es ++ (k, v) ∷ [])
above_more x [] k v h e = (e, tt)
above_more x (p ∷ es) k v h e = (h.0, above_more x es k v h.1 e)

pub rising_more : (es : List Pair) (k v : List ℕ) → Below k es → Rising es → Rising (es ++ (k, v) ∷ [])
rising_more [] k v b h = (tt, tt)
rising_more (e ∷ es) k v b h = (above_more e.0 es k v h.0 b.0, rising_more es k v b.1 h.1)

-- the last name lies below the next one
pub last_below : (es : List Pair) (p : Pair) (rest : List Pair) → name_order [] p.0 ≡ Less → Rising (es ++ p ∷ rest) → name_order (last_name es) p.0 ≡ Less
last_below [] p rest some h = some
last_below (e ∷ []) p rest some h = h.0.0
last_below (e ∷ f ∷ es) p rest some h = last_below (f ∷ es) p rest some h.1

text_at : {Z : Type 0} (es : List (String Z × String Z)) (i : ℕ) (k v : String Z) → i + 1 ≡ length es → slice_get es i ≡ Some (k, v) → string_bytes k ≡ last_name (entry_texts es)
text_at [] i k v n e = absurd (cc)
text_at (x ∷ []) zero k v n e = let same : x ≡ (k, v) = cc in ap (λ p. string_bytes p.0) (sym same)
text_at (x ∷ []) (suc i) k v n e = absurd (omega arith)
text_at (x ∷ y ∷ es) zero k v n e = absurd (omega arith)
text_at (x ∷ y ∷ es) (suc i) k v n e = text_at (y ∷ es) i k v (omega arith) e

pub last_text : {Z : Type 0} (es : List (String Z × String Z)) (k v : String Z) → slice_get es (length es - 1) ≡ Some (k, v) → string_bytes k ≡ last_name (entry_texts es)
last_text [] k v e = absurd (cc)
last_text (x ∷ es) k v e = text_at (x ∷ es) (length (x ∷ es) - 1) k v (omega arith) e

-- a name above the first of some that rise
above_all : (x y : List ℕ) (es : List Pair) → name_order x y ≡ Less → Above y es → Above x es
above_all x y [] h above = tt
above_all x y (e ∷ es) h above = (nat_list_cmp_total.trans x y e.0 h above.0, above_all x y es h above.1)

to_true : (b : Bool) → T b → b ≡ true
to_true true h = refl
to_true false h = absurd h

sorted_both : (r : Ordering) (above rest : Bool) → (r ≡ Less → rest ≡ true → above ≡ true) → ((is_lt r && above) && rest) ≡ (is_lt r && rest)
sorted_both Less true rest follows = refl
sorted_both Less false true follows = follows refl refl
sorted_both Less false false follows = refl
sorted_both Equal above rest follows = refl
sorted_both Greater above rest follows = refl

-- whether names rise, by the first two
sorted_two : (p q : Pair) (ps : List Pair) → is_sorted name_order (p ∷ q ∷ ps) ≡ (is_lt (name_order p.0 q.0) && is_sorted name_order (q ∷ ps))
sorted_two p q ps = sorted_both (name_order p.0 q.0) (below_all name_order p.0 ps) (is_sorted name_order (q ∷ ps)) (λ h e.
    let rising = rising_from (q ∷ ps) (subst T (sym e) tt) in
    to_true _ (above_to p.0 ps (above_all p.0 q.0 ps h rising.0)))

-- and by those at an index and before it
pub sorted_at : (ps : List Pair) (at : ℕ) (d : Pair) → 1 ≤ at → at < length ps → is_sorted name_order (drop (at - 1) ps) ≡ (is_lt (name_order (get_or ps (at - 1) d).0 (get_or ps at d).0) && is_sorted name_order (drop (at + 1 - 1) ps))
sorted_at ps zero d some within = absurd (omega arith)
sorted_at ps (suc k) d some within =
    let here : suc k - 1 ≡ k = omega arith in
    let next : suc k + 1 - 1 ≡ suc k = omega arith in
    rw (here, next) (
    ap (is_sorted name_order) (drop-cons ps k d (omega arith) ∙ ap (λ rest. get_or ps k d ∷ rest) (drop-cons ps (suc k) d within))
    ∙ sorted_two (get_or ps k d) (get_or ps (suc k) d) (drop (suc (suc k)) ps)
    ∙ ap (λ rest. is_lt (name_order (get_or ps k d).0 (get_or ps (suc k) d).0) && is_sorted name_order rest) (sym (drop-cons ps (suc k) d within)))

-- one name alone rises
pub sorted_end : (ps : List Pair) → length ps < 2 → is_sorted name_order ps ≡ true
sorted_end [] few = refl
sorted_end (p ∷ []) few = refl
sorted_end (p ∷ q ∷ ps) few = absurd (omega arith)

pub lt_or_ge : (r : Ordering) → is_lt r ≡ not (is_ge r)
lt_or_ge Less = refl
lt_or_ge Equal = refl
lt_or_ge Greater = refl
