-- Notes in order, and the first that has not its like.
use Rattle.std.proofs.Common.{◌==◌, ◌≡◌, ◌+◌, ◌<◌, ℕ, zero, suc, Bool, true, false, cond, ◌&&◌, nat_eq, nat_lt, bytes_eq, List, [], ◌∷◌, ◌++◌, length, length-append, append-nil, filter, take, drop, Option, Some, None, refl, ap, sym, subst, ◌∙◌, arith}
use Rattle.std.specs.Prelude.{slice_get, slice_index_or}
use Rattle.std.specs.Cmp.Lexicographic.{slice_cmp}
use Rattle.std.specs.Cmp.{IsStrictWeakOrder, IsTotalOrder}
use Rattle.std.specs.List.Sorted.{IsSortedBy}
use Rattle.std.specs.Ordering.{is_lt, nat_cmp, ordering_then, then_cmp, on}
use Rattle.std.specs.declared.cmp.Ordering.{Ordering}
use Rattle.std.specs.declared.cmp.Ordering.TheVariants.{Less, Equal, Greater}
use Rattle.std.specs.Ordering.{is_eq, ordering_reverse}
use Rattle.std.proofs.lemmas.Bool.Decides.{nat_tests}
use Rattle.std.proofs.lemmas.Map.Text.{is_eq-slice_cmp}
use Rattle.std.proofs.lemmas.Slice.Eq.{bytes_eq-Decides}
use Rattle.std.proofs.lemmas.Cmp.{nat_cmp_total, nat_list_cmp_total, on_total, then_total}
use Rattle.std.proofs.lemmas.List.Elements.{filter-append}
use Rattle.std.proofs.lemmas.List.Sorted.{ranks_by, sorted_far}
use Rattle.ing_rows.specs.declared.entry.Entry.{Entry}
use Rattle.ing_rows.specs.declared.verdict.Verdict.{Verdict}
use Rattle.ing_chunk.specs.declared.numbered.Numbered.{Numbered}
use Rattle.ing_rows.specs.Placement.{shard_of}
use Rattle.ing_rows.specs.Rows.{StreamKey, same_stream}
use Rattle.ing_diary.specs.Notes.{IsAlike, IsAmiss, IsUnlike, Note, is_note_at, note_before, note_cmp, is_in_shard, note_of_numbered, note_under, noted, notes_of, number_told}

-- ---- the order

total : IsTotalOrder (then_cmp (on (λ (n : Note). n.stream.tenant) (slice_cmp nat_cmp)) (then_cmp (on (λ (n : Note). n.stream.name) (slice_cmp nat_cmp)) (on (λ (n : Note). n.number) nat_cmp)))
total = then_total (on_total (λ (n : Note). n.stream.tenant) nat_list_cmp_total) (then_total (on_total (λ (n : Note). n.stream.name) nat_list_cmp_total) (on_total (λ (n : Note). n.number) nat_cmp_total))

pub before_is_order : IsStrictWeakOrder note_before
before_is_order = ranks_by total (λ n. n)

pub equal_then : (a b : Ordering) → ordering_then a b ≡ Equal → (a ≡ Equal) × (b ≡ Equal)
equal_then Less b h = absurd cc
equal_then Equal b h = (refl, h)
equal_then Greater b h = absurd cc

pub same_text : (a b : List ℕ) → slice_cmp nat_cmp a b ≡ Equal → a ≡ b
same_text a b h = (bytes_eq-Decides a b).0 (sym (is_eq-slice_cmp a b) ∙ ap is_eq h)

same_number : (a b : ℕ) → nat_cmp a b ≡ Equal → a ≡ b
same_number a b h = by (nat_lt a b) (nat_eq a b) refl h where
  by : (less same : Bool) → nat_eq a b ≡ same → cond less Less (cond same Equal Greater) ≡ Equal → a ≡ b
  by true same is h = absurd cc
  by false true is h = grind (arith, nat_tests)
  by false false is h = absurd cc

-- notes that neither stands before the other are of one number of one stream
pub same_key : (n m : Note) → note_cmp n m ≡ Equal → (n.stream ≡ m.stream) × (n.number ≡ m.number)
same_key n m h =
    let one = equal_then (slice_cmp nat_cmp n.stream.tenant m.stream.tenant) _ h in
    let two = equal_then (slice_cmp nat_cmp n.stream.name m.stream.name) _ one.1 in
    let tenant = same_text n.stream.tenant m.stream.tenant one.0 in
    let name = same_text n.stream.name m.stream.name two.0 in
    (λ i. record { tenant = tenant i; name = name i }, same_number n.number m.number two.1)

-- and where their entries are the same, they are
pub same_note : (n m : Note) → note_cmp n m ≡ Equal → n.entry ≡ m.entry → n ≡ m
same_note n m h e =
    let key = same_key n m h in
    λ i. record { stream = key.0 i; number = key.1 i; entry = e i }

pub turned_less : (x y : Note) → note_cmp x y ≡ Greater → note_before y x ≡ true
turned_less x y h = ap is_lt (total.antisymm y x ∙ ap ordering_reverse h)

-- ---- lists

-- nothing is noted of entries without verdicts
pub noted_none : (s : StreamKey) (es : List Entry) → noted s es [] ≡ []
noted_none s [] = refl
noted_none s (e ∷ es) = refl

-- what is noted of the next entry, and of the others
pub noted_next : (s : StreamKey) (e : Entry) (es : List Entry) (place : ℕ) (vs : List Verdict)
    → noted s (e ∷ es) (drop place vs) ≡ note_under s e (number_told (slice_get vs place)) ++ noted s es (drop (suc place) vs)
noted_next s e es zero [] = sym (noted_none s es)
noted_next s e es (suc place) [] = sym (noted_none s es)
noted_next s e es zero (v ∷ vs) = refl
noted_next s e es (suc place) (v ∷ vs) = noted_next s e es place vs

-- the rest of a list from its next item on
pub next_of : {X : Type 0} (xs : List X) (i : ℕ) (x : X) → slice_get xs i ≡ Some x → drop i xs ≡ x ∷ drop (suc i) xs
next_of [] i x is = absurd cc
next_of (y ∷ xs) zero x is = let same : y ≡ x = cc in ap (λ z. z ∷ xs) same
next_of (y ∷ xs) (suc i) x is = next_of xs i x is

-- an item that was read
pub got : {X : Type 0} (xs : List X) (i : ℕ) (x d : X) → i < length xs → x ≡ slice_index_or xs i d → slice_get xs i ≡ Some x
got [] i x d below is = absurd (omega (arith, below))
got (y ∷ xs) zero x d below is = ap Some (sym is)
got (y ∷ xs) (suc i) x d below is = got xs i x d (omega (arith, below)) is

-- an item that can be read
pub there : {X : Type 0} (xs : List X) (i : ℕ) → i < length xs → (x : X) × (slice_get xs i ≡ Some x)
there [] i below = absurd (omega (arith, below))
there (y ∷ xs) zero below = (y, refl)
there (y ∷ xs) (suc i) below = there xs i (omega (arith, below))

-- a list, split before an item
pub parted : {X : Type 0} (xs : List X) (i : ℕ) (x : X) → slice_get xs i ≡ Some x → xs ≡ take i xs ++ x ∷ drop (suc i) xs
parted [] i x is = absurd cc
parted (y ∷ xs) zero x is = let same : y ≡ x = cc in ap (λ z. z ∷ xs) same
parted (y ∷ xs) (suc i) x is = ap (λ l. y ∷ l) (parted xs i x is)

pub take_next : {X : Type 0} (xs : List X) (i : ℕ) (x : X) → slice_get xs i ≡ Some x → take (suc i) xs ≡ take i xs ++ x ∷ []
take_next [] i x is = absurd cc
take_next (y ∷ xs) zero x is = let same : y ≡ x = cc in ap (λ z. z ∷ []) same
take_next (y ∷ xs) (suc i) x is = ap (λ l. y ∷ l) (take_next xs i x is)

sorted_rest : (x : Note) (xs : List Note) → IsSortedBy note_before (x ∷ xs) → IsSortedBy note_before xs
sorted_rest x xs sorted k d low high =
    let next : suc k + 1 ≡ suc (k + 1) = omega arith in
    subst (λ n. note_before (slice_index_or (x ∷ xs) n d) (slice_index_or (x ∷ xs) (suc k) d) ≡ false) next (sorted (suc k) d (omega arith) (omega (arith, high)))

sorted_back : (front xs : List Note) → IsSortedBy note_before (front ++ xs) → IsSortedBy note_before xs
sorted_back [] xs sorted = sorted
sorted_back (x ∷ front) xs sorted = sorted_back front xs (sorted_rest x (front ++ xs) sorted)

-- ---- notes of one number of one stream

both_true : (a b : Bool) → (a && b) ≡ true → (a ≡ true) × (b ≡ true)
both_true true b h = (refl, h)
both_true false b h = absurd cc

pub stream_same : (a b : StreamKey) → same_stream a b ≡ true → a ≡ b
stream_same a b is =
    let keys = both_true (bytes_eq a.tenant b.tenant) (bytes_eq a.name b.name) is in
    let tenant = (bytes_eq-Decides a.tenant b.tenant).0 keys.0 in
    let name = (bytes_eq-Decides a.name b.name).0 keys.1 in
    λ i. record { tenant = tenant i; name = name i }

module _ (s : StreamKey) (number : ℕ) where
  abbrev at : Note → Bool
  at = is_note_at s number

  at_is : (n : Note) → at n ≡ true → (n.stream ≡ s) × (n.number ≡ number)
  at_is n is =
      let parts = both_true (same_stream n.stream s) (nat_eq n.number number) is in
      let is_number : nat_eq n.number number ≡ true = parts.1 in
      let same : n.number ≡ number = grind (arith, nat_tests) in
      (stream_same n.stream s parts.0, same)

  -- how many there are
  abbrev count : List Note → ℕ
  count ns = length (filter at ns)

  count_both : (xs ys : List Note) → count (xs ++ ys) ≡ count xs + count ys
  count_both xs ys = ap length (filter-append at xs ys) ∙ length-append (filter at xs) (filter at ys)

  some_there : (x : Note) → at x ≡ true → (front xs : List Note) → filter at (front ++ x ∷ xs) ≡ [] → ⊥
  some_there x is [] xs none =
      let one : cond true (x ∷ filter at xs) (filter at xs) ≡ [] = subst (λ b. cond b (x ∷ filter at xs) (filter at xs) ≡ []) is none in absurd cc
  some_there x is (w ∷ front) xs none = by (at w) (some_there x is front xs) none where
    by : (b : Bool) → (filter at (front ++ x ∷ xs) ≡ [] → ⊥) → cond b (w ∷ filter at (front ++ x ∷ xs)) (filter at (front ++ x ∷ xs)) ≡ [] → ⊥
    by true rest none = absurd cc
    by false rest none = rest none

  -- where one alone is there, it is that
  only : (x z : Note) → at x ≡ true → (front xs : List Note) → filter at (front ++ x ∷ xs) ≡ z ∷ [] → x ≡ z
  only x z is [] xs one =
      let there : x ∷ filter at xs ≡ z ∷ [] = subst (λ b. cond b (x ∷ filter at xs) (filter at xs) ≡ z ∷ []) is one in cc
  only x z is (w ∷ front) xs one = by (at w) (only x z is front xs) one where
    by : (b : Bool) → (filter at (front ++ x ∷ xs) ≡ z ∷ [] → x ≡ z) → cond b (w ∷ filter at (front ++ x ∷ xs)) (filter at (front ++ x ∷ xs)) ≡ z ∷ [] → x ≡ z
    by true rest one = let none : filter at (front ++ x ∷ xs) ≡ [] = cc in absurd (some_there x is front xs none)
    by false rest one = rest one

  -- none comes from where one would stand before the first
  none_from : (x y : Note) → at x ≡ true → note_before x y ≡ true → (zs : List Note) → ((j : ℕ) (d : Note) → j < length zs → note_before (slice_index_or zs j d) y ≡ false) → count zs ≡ 0
  none_from x y is before [] after = refl
  none_from x y is before (z ∷ zs) after =
      let rest = none_from x y is before zs (λ j d below. after (suc j) d (omega (arith, below))) in
      let not_z : note_before z y ≡ false = after 0 z (omega arith) in
      by (at z) refl not_z rest where
        by : (b : Bool) → at z ≡ b → note_before z y ≡ false → count zs ≡ 0 → length (cond b (z ∷ filter at zs) (filter at zs)) ≡ 0
        by true there not_z rest =
            let one = at_is z there in
            let other = at_is x is in
            let stream : x.stream ≡ z.stream = other.0 ∙ sym one.0 in
            let number_is : x.number ≡ z.number = other.1 ∙ sym one.1 in
            let same : note_before x y ≡ note_before z y = λ i. is_lt (ordering_then (slice_cmp nat_cmp (stream i).tenant y.stream.tenant) (ordering_then (slice_cmp nat_cmp (stream i).name y.stream.name) (nat_cmp (number_is i) y.number))) in
            let wrong : true ≡ false = sym before ∙ same ∙ not_z in absurd cc
        by false there not_z rest = rest

-- ---- the first that has not its like

-- it turns round
turned : (s : StreamKey) (number : ℕ) (xs ys : List Note) → IsAlike s number xs ys → IsAlike s number ys xs
turned s number xs ys alike = record { entry = alike.entry; one = alike.other; other = alike.one }

at_own : (x : Note) → is_note_at x.stream x.number x ≡ true
at_own x =
    let tenant = (bytes_eq-Decides x.stream.tenant x.stream.tenant).1 refl in
    let name = (bytes_eq-Decides x.stream.name x.stream.name).1 refl in
    let number : nat_eq x.number x.number ≡ true = grind (arith, nat_tests) in
    λ i. (tenant i && name i) && number i

-- one that would stand before all that is left has none
more_than_none : (x : Note) (front xs ys : List Note) → count x.stream x.number ys ≡ 0 → IsAlike x.stream x.number (front ++ x ∷ xs) (front ++ ys) → ⊥
more_than_none x front xs ys none alike =
    let many = count_both x.stream x.number front (x ∷ xs) in
    let few = count_both x.stream x.number front ys in
    let one : count x.stream x.number (front ++ x ∷ xs) ≡ 1 = ap length alike.one in
    let other : count x.stream x.number (front ++ ys) ≡ 1 = ap length alike.other in
    let mine : count x.stream x.number (x ∷ xs) ≡ suc (count x.stream x.number xs) = ap (λ b. length (cond b (x ∷ filter (is_note_at x.stream x.number) xs) (filter (is_note_at x.stream x.number) xs))) (at_own x) in
    omega (arith, many, few, one, other, mine, none)

pub amiss_behind : (x : Note) (front xs : List Note) → IsAlike x.stream x.number (front ++ x ∷ xs) (front ++ []) → ⊥
amiss_behind x front xs = more_than_none x front xs [] refl

pub amiss_before : (x y : Note) (front xs ys : List Note) → IsSortedBy note_before (front ++ y ∷ ys) → note_before x y ≡ true → IsAlike x.stream x.number (front ++ x ∷ xs) (front ++ y ∷ ys) → ⊥
amiss_before x y front xs ys sorted before =
    let back = sorted_back front (y ∷ ys) sorted in
    let none : count x.stream x.number (y ∷ ys) ≡ 0 = none_from x.stream x.number x y (at_own x) before (y ∷ ys) (λ j d below. sorted_far note_before before_is_order (y ∷ ys) back 0 j d (omega arith) below) in
    more_than_none x front xs (y ∷ ys) none

pub amiss_after : (x y : Note) (front xs ys : List Note) → IsSortedBy note_before (front ++ x ∷ xs) → note_before y x ≡ true → IsAlike y.stream y.number (front ++ x ∷ xs) (front ++ y ∷ ys) → ⊥
amiss_after x y front xs ys sorted before alike =
    amiss_before y x front ys xs sorted before (turned y.stream y.number (front ++ x ∷ xs) (front ++ y ∷ ys) alike)

pub amiss_behind_other : (y : Note) (front ys : List Note) → IsAlike y.stream y.number (front ++ []) (front ++ y ∷ ys) → ⊥
amiss_behind_other y front ys alike = amiss_behind y front ys (turned y.stream y.number (front ++ []) (front ++ y ∷ ys) alike)

pub amiss_other : (x y : Note) (front xs ys : List Note) → note_cmp x y ≡ Equal → (x.entry ≡ y.entry → ⊥) → IsAlike x.stream x.number (front ++ x ∷ xs) (front ++ y ∷ ys) → ⊥
amiss_other x y front xs ys same differ alike =
    let key = same_key x y same in
    let there : is_note_at x.stream x.number y ≡ true = subst (λ (k : StreamKey). is_note_at k x.number y ≡ true) (sym key.0) (subst (λ n. is_note_at y.stream n y ≡ true) (sym key.1) (at_own y)) in
    let one = only x.stream x.number x _ (at_own x) front xs alike.one in
    let other = only x.stream x.number y _ there front ys alike.other in
    differ (ap (λ (n : Note). n.entry) (one ∙ sym other))

-- ---- the same of two lists that begin alike

module _ (ours theirs : List Note) (place : ℕ) (same : take place ours ≡ take place theirs) where
  ours_are : (x : Note) → slice_get ours place ≡ Some x → ours ≡ take place ours ++ x ∷ drop (suc place) ours
  ours_are x is = parted ours place x is

  theirs_are : (y : Note) → slice_get theirs place ≡ Some y → theirs ≡ take place ours ++ y ∷ drop (suc place) theirs
  theirs_are y is = parted theirs place y is ∙ ap (λ l. l ++ y ∷ drop (suc place) theirs) (sym same)

  alike_as : (s : StreamKey) (number : ℕ) (xs ys : List Note) → ours ≡ xs → theirs ≡ ys → IsAlike s number ours theirs → IsAlike s number xs ys
  alike_as s number xs ys one other alike = subst (λ l. IsAlike s number xs l) other (subst (λ l. IsAlike s number l theirs) one alike)

  module _ (x y : Note) (at_x : slice_get ours place ≡ Some x) (at_y : slice_get theirs place ≡ Some y) where
    pub at_less : IsSortedBy note_before theirs → note_before x y ≡ true → IsAlike x.stream x.number ours theirs → ⊥
    at_less sorted before alike =
        amiss_before x y (take place ours) (drop (suc place) ours) (drop (suc place) theirs) (subst (IsSortedBy note_before) (theirs_are y at_y) sorted) before
        (alike_as x.stream x.number _ _ (ours_are x at_x) (theirs_are y at_y) alike)

    pub at_greater : IsSortedBy note_before ours → note_before y x ≡ true → IsAlike y.stream y.number ours theirs → ⊥
    at_greater sorted before alike =
        amiss_after x y (take place ours) (drop (suc place) ours) (drop (suc place) theirs) (subst (IsSortedBy note_before) (ours_are x at_x) sorted) before
        (alike_as y.stream y.number _ _ (ours_are x at_x) (theirs_are y at_y) alike)

    pub at_other : note_cmp x y ≡ Equal → (x.entry ≡ y.entry → ⊥) → IsAlike x.stream x.number ours theirs → ⊥
    at_other equal differ alike =
        amiss_other x y (take place ours) (drop (suc place) ours) (drop (suc place) theirs) equal differ
        (alike_as x.stream x.number _ _ (ours_are x at_x) (theirs_are y at_y) alike)

    -- one more is alike
    pub at_same : note_cmp x y ≡ Equal → x.entry ≡ y.entry → take (suc place) ours ≡ take (suc place) theirs
    at_same equal entry =
        take_next ours place x at_x ∙ ap (λ l. l ++ x ∷ []) same ∙ ap (λ (n : Note). take place theirs ++ n ∷ []) (same_note x y equal entry) ∙ sym (take_next theirs place y at_y)

  pub at_behind : (x : Note) → slice_get ours place ≡ Some x → take place theirs ≡ theirs → IsAlike x.stream x.number ours theirs → ⊥
  at_behind x at_x all alike =
      amiss_behind x (take place ours) (drop (suc place) ours)
      (alike_as x.stream x.number _ _ (ours_are x at_x) (sym all ∙ sym same ∙ sym (append-nil (take place ours))) alike)

  pub at_behind_other : (y : Note) → slice_get theirs place ≡ Some y → take place ours ≡ ours → IsAlike y.stream y.number ours theirs → ⊥
  at_behind_other y at_y all alike =
      amiss_behind_other y (take place ours) (drop (suc place) theirs)
      (alike_as y.stream y.number _ _ (sym all ∙ sym (append-nil (take place ours))) (theirs_are y at_y) alike)

-- ---- what stands somewhere

stands_at : (xs : List Note) (i : ℕ) (x : Note) → slice_get xs i ≡ Some x → 0 < length (filter (is_note_at x.stream x.number) xs)
stands_at [] i x at = absurd cc
stands_at (y ∷ ys) zero x at =
    let same : y ≡ x = cc in
    let passes = ap (is_note_at x.stream x.number) same ∙ at_own x in
    subst (λ b. 0 < length (cond b (y ∷ filter (is_note_at x.stream x.number) ys) (filter (is_note_at x.stream x.number) ys))) (sym passes) (omega arith)
stands_at (y ∷ ys) (suc i) x at = by_cases (is_note_at x.stream x.number y) (stands_at ys i x at) where
  by_cases : (b : Bool) → 0 < length (filter (is_note_at x.stream x.number) ys) → 0 < length (cond b (y ∷ filter (is_note_at x.stream x.number) ys) (filter (is_note_at x.stream x.number) ys))
  by_cases true some = omega arith
  by_cases false some = some

-- in the one list, or in the other
module _ (x : Note) (xs ys : List Note) where
  both_count : length (filter (is_note_at x.stream x.number) (xs ++ ys)) ≡ length (filter (is_note_at x.stream x.number) xs) + length (filter (is_note_at x.stream x.number) ys)
  both_count =
      let at = is_note_at x.stream x.number in
      ap length (filter-append at xs ys) ∙ length-append (filter at xs) (filter at ys)

  stands_one : (i : ℕ) → slice_get xs i ≡ Some x → 0 < length (filter (is_note_at x.stream x.number) (xs ++ ys))
  stands_one i at = let here = stands_at xs i x at in omega (arith, both_count, here)

  stands_other : (i : ℕ) → slice_get ys i ≡ Some x → 0 < length (filter (is_note_at x.stream x.number) (xs ++ ys))
  stands_other i at = let here = stands_at ys i x at in omega (arith, both_count, here)

read_there : (xs : List Note) (i : ℕ) (x y : Note) → x ≡ slice_index_or xs i x → slice_get xs i ≡ Some y → x ≡ y
read_there [] i x y is at = absurd cc
read_there (z ∷ zs) zero x y is at = let same : z ≡ y = cc in is ∙ same
read_there (z ∷ zs) (suc i) x y is at = read_there zs i x y is at

-- what is amiss at a place stands there
module _ (ours theirs : List Note) (place : ℕ) (x : Note) where
  abbrev Stands : Type 0
  Stands = 0 < length (filter (is_note_at x.stream x.number) (ours ++ theirs))

  unlike_there : (xs : List Note) → (slice_get xs place ≡ Some x → Stands) → x ≡ slice_index_or xs place x → IsAmiss ours theirs (slice_get xs place) → IsUnlike x.stream x.number ours theirs
  unlike_there xs stands is amiss = by_cases (slice_get xs place) refl amiss where
    by_cases : (o : Option Note) → slice_get xs place ≡ o → IsAmiss ours theirs o → IsUnlike x.stream x.number ours theirs
    by_cases None at amiss = absurd amiss
    by_cases (Some y) at amiss =
        let same = read_there xs place x y is at in
        record {
          stands = stands (at ∙ ap Some (sym same));
          unlike = subst (λ (n : Note). IsAlike n.stream n.number ours theirs → ⊥) (sym same) amiss;
        }

  pub unlike_one : x ≡ slice_index_or ours place x → IsAmiss ours theirs (slice_get ours place) → IsUnlike x.stream x.number ours theirs
  unlike_one = unlike_there ours (stands_one x ours theirs place)

  pub unlike_other : x ≡ slice_index_or theirs place x → IsAmiss ours theirs (slice_get theirs place) → IsUnlike x.stream x.number ours theirs
  unlike_other = unlike_there theirs (stands_other x ours theirs place)

-- ---- the notes of a shard

-- entries of one stream are all of the shard where the stream is, and else none
pub noted_in : (shards shard : ℕ) (s : StreamKey) (es : List Numbered) (b : Bool) → (shard_of s.tenant s.name shards == shard) ≡ b
    → filter (is_in_shard shards shard) (notes_of s es) ≡ cond b (notes_of s es) []
noted_in shards shard s [] true is = refl
noted_in shards shard s [] false is = refl
noted_in shards shard s (e ∷ es) true is =
    let rest = noted_in shards shard s es true is in
    let n = note_of_numbered s e in
    ap (λ b. cond b (n ∷ filter (is_in_shard shards shard) (notes_of s es)) (filter (is_in_shard shards shard) (notes_of s es))) is ∙ ap (λ l. n ∷ l) rest
noted_in shards shard s (e ∷ es) false is =
    let rest = noted_in shards shard s es false is in
    let n = note_of_numbered s e in
    ap (λ b. cond b (n ∷ filter (is_in_shard shards shard) (notes_of s es)) (filter (is_in_shard shards shard) (notes_of s es))) is ∙ rest

pub all_in : (shards shard : ℕ) (s : StreamKey) (es : List Numbered) → shard_of s.tenant s.name shards ≡ shard → filter (is_in_shard shards shard) (notes_of s es) ≡ notes_of s es
all_in shards shard s es is =
    let place = shard_of s.tenant s.name shards in
    let same : (place == shard) ≡ true = grind (arith, nat_tests) in
    noted_in shards shard s es true same

pub none_in : (shards shard : ℕ) (s : StreamKey) (es : List Numbered) → (shard_of s.tenant s.name shards ≡ shard → ⊥) → filter (is_in_shard shards shard) (notes_of s es) ≡ []
none_in shards shard s es other = by (shard_of s.tenant s.name shards == shard) refl where
  by : (b : Bool) → (shard_of s.tenant s.name shards == shard) ≡ b → filter (is_in_shard shards shard) (notes_of s es) ≡ []
  by true is =
      let place = shard_of s.tenant s.name shards in
      let same : place ≡ shard = grind (arith, nat_tests) in absurd (other same)
  by false is = noted_in shards shard s es false is
