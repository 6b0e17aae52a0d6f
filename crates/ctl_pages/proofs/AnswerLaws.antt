-- An answer is one that may answer.
use Rattle.std.proofs.Common.{◌≡◌, ◌-◌, ◌<◌, ◌≤◌, Bool, true, false, cond, List, [], ◌∷◌, ◌++◌, length, map, take, drop, Option, Some, None, refl, sym, ap, subst, ◌∙◌, ◌&&◌, ◌==◌, bytes_eq, arith, min}
use Rattle.std.specs.Prelude.{nat_le, nat_lt, not, option_map, slice_get}
use Rattle.std.specs.List.{filter, list_all}
use Rattle.std.specs.Cmp.Lexicographic.{slice_cmp}
use Rattle.std.specs.Ordering.{is_ge, is_le, is_lt, nat_cmp, ordering_reverse, ordering_then}
use Rattle.std.specs.declared.cmp.Ordering.{Ordering}
use Rattle.std.specs.declared.cmp.Ordering.TheVariants.{Less, Equal, Greater}
use Rattle.std.proofs.lemmas.Bool.Decides.{Decides-eqb, nat_tests}
use Rattle.std.proofs.lemmas.Cmp.{nat_cmp_total, nat_list_cmp_total}
use Rattle.std.proofs.lemmas.List.{take-append-drop, length-map, length-take}
use Rattle.std.proofs.lemmas.Option.{slice_get-map}
use Rattle.std.proofs.lemmas.Slice.Eq.{bytes_eq-Decides}
use Rattle.ing_rows.specs.Cursors.{Cursor}
use Rattle.ing_rows.specs.declared.order.Order.{Order}
use Rattle.ing_rows.specs.declared.order.Order.TheVariants.{Forward, Backward}
use Rattle.ctl_pages.specs.Pages.{Placed, Wanted, answer_of, is_behind, is_from, is_full, is_place_of, is_wanted, is_within, last_of, may_answer, may_be_behind, may_be_wanted, next_of, place_of, precedes, tells_end}
use Rattle.ctl_pages.specs.declared.told.Told.{Told}
use Rattle.ctl_pages.proofs.ListLaws.{all_of_both, both, filter_passes, last_at, last_by, of_last}
use Rattle.ctl_pages.proofs.PageLaws.{next_full, next_short}

abbrev told_of : Placed → Told
told_of placed = placed.told

-- ---- where entries stand

lt_le : (a b n : Ordering) → is_lt (ordering_then a (ordering_then b n)) ≡ true → is_le (ordering_then a b) ≡ true
lt_le Less b n h = refl
lt_le Equal Less n h = refl
lt_le Equal Equal n h = refl
lt_le Equal Greater n h = h
lt_le Greater b n h = h

lt_ge : (a b n : Ordering) → is_lt (ordering_then a (ordering_then b n)) ≡ true → is_ge (ordering_then (ordering_reverse a) (ordering_reverse b)) ≡ true
lt_ge Less b n h = refl
lt_ge Equal Less n h = refl
lt_ge Equal Equal n h = refl
lt_ge Equal Greater n h = h
lt_ge Greater b n h = h

-- what stands behind a place may, whatever its number
from_place : (order : Order) (place : Cursor) (x : Placed) → precedes order place (place_of x) ≡ true → is_from order place x.told ≡ true
from_place Forward place x h =
    lt_le (nat_cmp place.stamp x.told.stamp) (slice_cmp nat_cmp place.stream x.told.stream) (nat_cmp place.number x.number) h
from_place Backward place x h =
    ap (λ a. is_ge (ordering_then a (slice_cmp nat_cmp place.stream x.told.stream))) (nat_cmp_total.antisymm place.stamp x.told.stamp)
    ∙ ap (λ b. is_ge (ordering_then (ordering_reverse (nat_cmp x.told.stamp place.stamp)) b)) (nat_list_cmp_total.antisymm place.stream x.told.stream)
    ∙ lt_ge (nat_cmp x.told.stamp place.stamp) (slice_cmp nat_cmp x.told.stream place.stream) (nat_cmp x.number place.number) h

behind_place : (order : Order) (after : Option Cursor) (x : Placed) → is_behind order after (place_of x) ≡ true → may_be_behind order after x.told ≡ true
behind_place order None x h = refl
behind_place order (Some place) x h = from_place order place x h

wanted_may_be : (w : Wanted) (x : Placed) → is_wanted w x ≡ true → may_be_wanted w x.told ≡ true
wanted_may_be w x h =
    let parts : (is_within w x.told ≡ true) × (is_behind w.order w.after (place_of x) ≡ true) =
    both (is_within w x.told) (is_behind w.order w.after (place_of x)) h in
    ap (λ b. b && may_be_behind w.order w.after x.told) parts.0 ∙ behind_place w.order w.after x parts.1

all_may_be : (w : Wanted) (xs : List Placed) → list_all (is_wanted w) xs ≡ true → list_all (may_be_wanted w) (map told_of xs) ≡ true
all_may_be w [] h = refl
all_may_be w (x ∷ xs) h =
    let parts : (is_wanted w x ≡ true) × (list_all (is_wanted w) xs ≡ true) = both (is_wanted w x) (list_all (is_wanted w) xs) h in
    ap (λ b. b && list_all (may_be_wanted w) (map told_of xs)) (wanted_may_be w x parts.0) ∙ all_may_be w xs parts.1

-- ---- what is told of the end

is_itself : (x : Placed) → is_place_of (place_of x) (Some x.told) ≡ true
is_itself x =
    ap (λ b. b && bytes_eq x.told.stream x.told.stream) ((Decides-eqb x.told.stamp x.told.stamp).1 refl)
    ∙ (bytes_eq-Decides x.told.stream x.told.stream).1 refl

last_told : (x : Placed) (xs : List Placed) → last_of (map told_of (x ∷ xs)) ≡ Some (last_by x xs).told
last_told x xs =
    let at : length (map told_of (x ∷ xs)) - 1 ≡ length xs = let same : length (map told_of xs) ≡ length xs = length-map xs told_of in omega arith in
    ap (slice_get (map told_of (x ∷ xs))) at ∙ slice_get-map told_of (x ∷ xs) (length xs) ∙ ap (option_map told_of) (last_at x xs)

-- nothing is told of the end of a page that is not full
not_told : (w : Wanted) (page : List Placed) → length page < w.limit → tells_end w (map told_of page) (next_of w page) ≡ true
not_told w page short =
    let counted : length (map told_of page) ≡ length page = length-map page told_of in
    let other : (length (map told_of page) == w.limit) ≡ false = grind (arith, nat_tests) in
    ap (tells_end w (map told_of page)) (next_short w page short)
    ∙ ap (λ b. not (w.pages && b)) other ∙ never w.pages where
      never : (b : Bool) → not (b && false) ≡ true
      never true = refl
      never false = refl

end_told : (w : Wanted) (x : Placed) (xs : List Placed) (paged : Bool) → w.pages ≡ paged → length (x ∷ xs) ≡ w.limit
    → list_all (is_wanted w) (x ∷ xs) ≡ true → tells_end w (map told_of (x ∷ xs)) (next_of w (x ∷ xs)) ≡ true
end_told w x xs true is full wanted =
    let last : Placed = last_by x xs in
    let counted : length (map told_of (x ∷ xs)) ≡ length (x ∷ xs) = length-map (x ∷ xs) told_of in
    let same : (length (map told_of (x ∷ xs)) == w.limit) ≡ true = grind (arith, nat_tests) in
    let whole : is_full w (map told_of (x ∷ xs)) ≡ true = ap (λ b. b && (length (map told_of (x ∷ xs)) == w.limit)) is ∙ same in
    let there : is_place_of (place_of last) (last_of (map told_of (x ∷ xs))) ≡ true =
    ap (is_place_of (place_of last)) (last_told x xs) ∙ is_itself last in
    let behind : is_behind w.order w.after (place_of last) ≡ true =
    (both (is_within w last.told) (is_behind w.order w.after (place_of last)) (of_last (is_wanted w) x xs wanted)).1 in
    ap (tells_end w (map told_of (x ∷ xs))) (next_full w x xs is full)
    ∙ ap (λ b. b && is_place_of (place_of last) (last_of (map told_of (x ∷ xs))) && is_behind w.order w.after (place_of last)) whole
    ∙ ap (λ b. b && is_behind w.order w.after (place_of last)) there ∙ behind
end_told w x xs false is full wanted =
    ap (tells_end w (map told_of (x ∷ xs))) (ap (λ b. cond b (option_map place_of (slice_get (x ∷ xs) (w.limit - 1))) None) is)
    ∙ ap (λ b. not (b && (length (map told_of (x ∷ xs)) == w.limit))) is

tells : (w : Wanted) (page : List Placed) (short : Bool) → nat_lt (length page) w.limit ≡ short → 0 < w.limit → length page ≤ w.limit
    → list_all (is_wanted w) page ≡ true → tells_end w (map told_of page) (next_of w page) ≡ true
tells w page true is some long wanted = not_told w page (grind (arith, nat_tests))
tells w [] false is some long wanted = not_told w [] some
tells w (x ∷ xs) false is some long wanted = end_told w x xs w.pages refl (grind (arith, nat_tests)) wanted

-- ---- an answer

pub answer_may : (all : List Placed) (w : Wanted) → 0 < w.limit
    → may_answer w (map told_of (answer_of w all)) (next_of w (answer_of w all)) ≡ true
answer_may all w some =
    let found : List Placed = filter (is_wanted w) all in
    let page : List Placed = take w.limit found in
    let P : List Placed → Type 0 = λ ys. list_all (is_wanted w) ys ≡ true in
    let passes : list_all (is_wanted w) (page ++ drop w.limit found) ≡ true = subst P (sym (take-append-drop w.limit found)) (filter_passes (is_wanted w) all) in
    let wanted : list_all (is_wanted w) page ≡ true = (all_of_both (is_wanted w) page (drop w.limit found) passes).0 in
    let counted : length page ≡ min w.limit (length found) = length-take w.limit found in
    let mapped : length (map told_of page) ≡ length page = length-map page told_of in
    let long : length page ≤ w.limit = omega arith in
    let fits : nat_le (length (map told_of page)) w.limit ≡ true = grind (arith, nat_tests) in
    ap (λ b. b && list_all (may_be_wanted w) (map told_of page) && tells_end w (map told_of page) (next_of w page)) fits
    ∙ ap (λ b. b && tells_end w (map told_of page) (next_of w page)) (all_may_be w page wanted)
    ∙ tells w page (nat_lt (length page) w.limit) refl some long wanted
