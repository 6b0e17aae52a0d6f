-- All pages have all that is wanted.
use Rattle.std.proofs.Common.{◌≡◌, ℕ, zero, suc, ◌-◌, ◌<◌, ◌≤◌, Bool, true, false, cond, List, [], ◌∷◌, ◌++◌, length, take, drop, Option, Some, None, refl, sym, ap, subst, ◌∙◌, ◌&&◌, arith, min}
use Rattle.std.specs.Prelude.{nat_lt, option_map, slice_get}
use Rattle.std.specs.List.{filter, list_all}
use Rattle.std.proofs.lemmas.Bool.{true≢false}
use Rattle.std.proofs.lemmas.Bool.Decides.{nat_tests}
use Rattle.std.proofs.lemmas.Option.{slice_get_past}
use Rattle.std.proofs.lemmas.List.{take-append-drop, drop_all, length-drop, length-take}
use Rattle.std.proofs.lemmas.List.Elements.{filter-append}
use Rattle.ing_rows.specs.Cursors.{Cursor}
use Rattle.ing_rows.specs.declared.order.Order.{Order}
use Rattle.ctl_pages.specs.Pages.{AreBehind, ArePages, IsInOrder, Placed, Wanted, answer_of, asking_behind, is_behind, is_wanted, is_within, joined, next_of, place_of, precedes, stands_before}
use Rattle.ctl_pages.proofs.ListLaws.{all_of_both, both, filter_all, filter_first, filter_keeps, filter_passes, filter_twice, last_at, last_by, of_last}
use Rattle.ctl_pages.proofs.PlaceLaws.{not_itself, precedes_is_order, still_behind}

-- ---- behind a page

in_order_at : (order : Order) (b : Bool) (x : Placed) (xs : List Placed) → list_all (stands_before order x) xs ≡ true → IsInOrder order xs → IsInOrder order (cond b (x ∷ xs) xs)
in_order_at order true x xs first rest = (first, rest)
in_order_at order false x xs first rest = rest

-- a filter keeps the order
filter_in_order : (order : Order) (p : Placed → Bool) (xs : List Placed) → IsInOrder order xs → IsInOrder order (filter p xs)
filter_in_order order p [] h = tt
filter_in_order order p (x ∷ xs) h = in_order_at order (p x) x (filter p xs) (filter_keeps (stands_before order x) p xs h.0) (filter_in_order order p xs h.1)

-- behind the last of the first entries are all others, and none of them
behind_last : (order : Order) (x : Placed) (xs rest : List Placed) → IsInOrder order ((x ∷ xs) ++ rest)
    → (filter (stands_before order (last_by x xs)) (x ∷ xs) ≡ []) × (list_all (stands_before order (last_by x xs)) rest ≡ true)
behind_last order x [] rest h = (filter_first (stands_before order x) x [] [] (not_itself order (place_of x)) refl, h.0)
behind_last order x (y ∷ xs) rest h =
    let others : (filter (stands_before order (last_by y xs)) (y ∷ xs) ≡ []) × (list_all (stands_before order (last_by y xs)) rest ≡ true) =
    behind_last order y xs rest h.1 in
    let first : stands_before order x (last_by y xs) ≡ true =
    of_last (stands_before order x) y xs (all_of_both (stands_before order x) (y ∷ xs) rest h.0).0 in
    let not_behind : stands_before order (last_by y xs) x ≡ false = (precedes_is_order order).one_way (place_of x) (place_of (last_by y xs)) first in
    (filter_first (stands_before order (last_by y xs)) x (y ∷ xs) [] not_behind others.0, others.1)

more_tests : (a b c : Bool) → (c ≡ true → b ≡ true) → (a && c) ≡ ((a && b) && c)
more_tests true true c h = refl
more_tests true false true h = absurd (true≢false (sym (h refl)))
more_tests true false false h = refl
more_tests false b c h = refl

-- what is wanted behind a place that may be wanted is what was wanted and stands behind it
wanted_behind : (w : Wanted) (place : Cursor) → is_behind w.order w.after place ≡ true → (x : Placed)
    → is_wanted (asking_behind w place) x ≡ (is_wanted w x && precedes w.order place (place_of x))
wanted_behind w place there x =
    more_tests (is_within w x.told) (is_behind w.order w.after (place_of x)) (precedes w.order place (place_of x))
    (still_behind w.order w.after place (place_of x) there)

-- behind the last entry of a page the others are wanted
others_wanted : (all : List Placed) (w : Wanted) (x : Placed) (xs rest : List Placed) → IsInOrder w.order all
    → (x ∷ xs) ++ rest ≡ filter (is_wanted w) all → filter (is_wanted (asking_behind w (place_of (last_by x xs)))) all ≡ rest
others_wanted all w x xs rest ordered whole =
    let last : Placed = last_by x xs in
    let P : List Placed → Type 0 = λ ys. IsInOrder w.order ys in
    let in_order : IsInOrder w.order ((x ∷ xs) ++ rest) = subst P (sym whole) (filter_in_order w.order (is_wanted w) all ordered) in
    let Q : List Placed → Type 0 = λ ys. list_all (is_wanted w) ys ≡ true in
    let passes : list_all (is_wanted w) ((x ∷ xs) ++ rest) ≡ true = subst Q (sym whole) (filter_passes (is_wanted w) all) in
    let last_passes : is_wanted w last ≡ true = of_last (is_wanted w) x xs (all_of_both (is_wanted w) (x ∷ xs) rest passes).0 in
    let there : is_behind w.order w.after (place_of last) ≡ true =
    (both (is_within w last.told) (is_behind w.order w.after (place_of last)) last_passes).1 in
    let sides : (filter (stands_before w.order last) (x ∷ xs) ≡ []) × (list_all (stands_before w.order last) rest ≡ true) =
    behind_last w.order x xs rest in_order in
    let behind : Placed → Bool = stands_before w.order last in
    filter_twice (is_wanted w) behind (is_wanted (asking_behind w (place_of last))) (wanted_behind w (place_of last) there) all
    ∙ ap (filter behind) (sym whole) ∙ filter-append behind (x ∷ xs) rest
    ∙ ap (λ ys. ys ++ filter behind rest) sides.0 ∙ filter_all behind rest sides.1

-- ---- what is told with a page

-- with a full page the place of its last entry
pub next_full : (w : Wanted) (x : Placed) (xs : List Placed) → w.pages ≡ true → length (x ∷ xs) ≡ w.limit
    → next_of w (x ∷ xs) ≡ Some (place_of (last_by x xs))
next_full w x xs paged full =
    let at : w.limit - 1 ≡ length xs = omega arith in
    ap (λ b. cond b (option_map place_of (slice_get (x ∷ xs) (w.limit - 1))) None) paged
    ∙ ap (λ n. option_map place_of (slice_get (x ∷ xs) n)) at ∙ ap (option_map place_of) (last_at x xs)

neither : {A : Type 0} (b : Bool) (a : A) → cond b a a ≡ a
neither true a = refl
neither false a = refl

-- with a shorter one nothing
pub next_short : (w : Wanted) (page : List Placed) → length page < w.limit → next_of w page ≡ None
next_short w page short =
    let past : length page ≤ w.limit - 1 = omega arith in
    ap (λ last. cond w.pages (option_map place_of last) None) (slice_get_past page (w.limit - 1) past) ∙ neither w.pages None

-- these are the entries that are left behind such a place
abbrev Leaves : List Placed → Wanted → Option Cursor → List Placed → Type 0
Leaves all w None rest = rest ≡ []
Leaves all w (Some place) rest = filter (is_wanted (asking_behind w place)) all ≡ rest

page_leaves : (all : List Placed) (w : Wanted) (page rest : List Placed) (short : Bool) → nat_lt (length page) w.limit ≡ short
    → 0 < w.limit → w.pages ≡ true → IsInOrder w.order all → page ++ rest ≡ filter (is_wanted w) all
    → length page ≤ w.limit → (length page < w.limit → rest ≡ []) → Leaves all w (next_of w page) rest
page_leaves all w page rest true is some paged ordered whole long last =
    let short : length page < w.limit = grind (arith, nat_tests) in
    let P : Option Cursor → Type 0 = λ next. Leaves all w next rest in
    subst P (sym (next_short w page short)) (last short)
page_leaves all w [] rest false is some paged ordered whole long last =
    let P : Option Cursor → Type 0 = λ next. Leaves all w next rest in
    subst P (sym (next_short w [] some)) (last some)
page_leaves all w (x ∷ xs) rest false is some paged ordered whole long last =
    let full : length (x ∷ xs) ≡ w.limit = grind (arith, nat_tests) in
    let P : Option Cursor → Type 0 = λ next. Leaves all w next rest in
    subst P (sym (next_full w x xs paged full)) (others_wanted all w x xs rest ordered whole)

-- behind an answer
answer_leaves : (all : List Placed) (w : Wanted) → 0 < w.limit → w.pages ≡ true → IsInOrder w.order all
    → Leaves all w (next_of w (answer_of w all)) (drop w.limit (filter (is_wanted w) all))
answer_leaves all w some paged ordered =
    let found : List Placed = filter (is_wanted w) all in
    let page : List Placed = answer_of w all in
    let counted : length page ≡ min w.limit (length found) = length-take w.limit found in
    let last : length page < w.limit → drop w.limit found ≡ [] = λ short. let few : length found ≤ w.limit = omega arith in drop_all w.limit found few in
    page_leaves all w page (drop w.limit found) (nat_lt (length page) w.limit) refl some paged ordered (take-append-drop w.limit found) (omega arith) last

-- ---- all pages

-- a page, and what the others have where they have all that is left behind it
page_then : (all : List Placed) (w : Wanted) (page others : List Placed) → 0 < w.limit → w.pages ≡ true → IsInOrder w.order all
    → page ≡ answer_of w all → ((rest : List Placed) → Leaves all w (next_of w page) rest → others ≡ rest)
    → page ++ others ≡ filter (is_wanted w) all
page_then all w page others some paged ordered answers then =
    let found : List Placed = filter (is_wanted w) all in
    let rest : List Placed = drop w.limit found in
    let P : List Placed → Type 0 = λ ys. Leaves all w (next_of w ys) rest in
    let left : Leaves all w (next_of w page) rest = subst P (sym answers) (answer_leaves all w some paged ordered) in
    ap (λ ys. page ++ ys) (then rest left) ∙ ap (λ ys. ys ++ rest) answers ∙ take-append-drop w.limit found

pages_leave : (all : List Placed) (w : Wanted) (pages : List (List Placed)) (next : Option Cursor) (rest : List Placed)
    → 0 < w.limit → w.pages ≡ true → IsInOrder w.order all → Leaves all w next rest → AreBehind all w next pages → joined pages ≡ rest
pages_leave all w [] None rest some paged ordered leaves are = sym leaves
pages_leave all w [] (Some place) rest some paged ordered leaves are = absurd are
pages_leave all w (page ∷ pages) None rest some paged ordered leaves are = absurd are
pages_leave all w (page ∷ pages) (Some place) rest some paged ordered leaves are =
    page_then all (asking_behind w place) page (joined pages) some paged ordered are.0
    (λ others left. pages_leave all w pages (next_of w page) others some paged ordered left are.1)
    ∙ leaves

-- they have what is wanted, in order
pub all_pages : (all : List Placed) (w : Wanted) (pages : List (List Placed)) → 0 < w.limit → w.pages ≡ true → IsInOrder w.order all
    → ArePages all w pages → joined pages ≡ filter (is_wanted w) all
all_pages all w [] some paged ordered are = absurd are
all_pages all w (page ∷ pages) some paged ordered are =
    page_then all w page (joined pages) some paged ordered are.0
    (λ others left. pages_leave all w pages (next_of w page) others some paged ordered left are.1)

-- ---- the last page

-- behind one page more
next_leaves : (all : List Placed) (w : Wanted) (place : Cursor) (rest : List Placed) → 0 < w.limit → w.pages ≡ true → IsInOrder w.order all
    → Leaves all w (Some place) rest → Leaves all w (next_of w (answer_of (asking_behind w place) all)) (drop w.limit rest)
next_leaves all w place rest some paged ordered leaves =
    let P : List Placed → Type 0 = λ ys. Leaves all w (next_of w (answer_of (asking_behind w place) all)) (drop w.limit ys) in
    subst P leaves (answer_leaves all (asking_behind w place) some paged ordered)

-- with an empty page nothing is told
none_left : (all : List Placed) (w : Wanted) (place : Cursor) (rest : List Placed) → 0 < w.limit → length rest ≤ 0
    → Leaves all w (Some place) rest → next_of w (answer_of (asking_behind w place) all) ≡ None
none_left all w place rest some few leaves =
    let counted : length (answer_of (asking_behind w place) all) ≡ min w.limit (length rest) =
    ap (λ ys. length (take w.limit ys)) leaves ∙ length-take w.limit rest in
    next_short w (answer_of (asking_behind w place) all) (omega arith)

pages_behind : (all : List Placed) (w : Wanted) (most : ℕ) (next : Option Cursor) (rest : List Placed) → 0 < w.limit → w.pages ≡ true
    → IsInOrder w.order all → length rest ≤ most → Leaves all w next rest → (pages : List (List Placed)) × AreBehind all w next pages
pages_behind all w most None rest some paged ordered few leaves = ([], tt)
pages_behind all w zero (Some place) rest some paged ordered few leaves =
    let P : Option Cursor → Type 0 = λ next. AreBehind all w next [] in
    (answer_of (asking_behind w place) all ∷ [], (refl, subst P (sym (none_left all w place rest some few leaves)) tt))
pages_behind all w (suc most) (Some place) rest some paged ordered few leaves =
    let page : List Placed = answer_of (asking_behind w place) all in
    let counted : length (drop w.limit rest) ≡ length rest - w.limit = length-drop w.limit rest in
    let others : (pages : List (List Placed)) × AreBehind all w (next_of w page) pages =
    pages_behind all w most (next_of w page) (drop w.limit rest) some paged ordered (omega arith)
    (next_leaves all w place rest some paged ordered leaves) in
    (page ∷ others.0, (refl, others.1))

-- there are pages up to one that is the last
pub pages_to_last : (all : List Placed) (w : Wanted) → 0 < w.limit → w.pages ≡ true → IsInOrder w.order all
    → (pages : List (List Placed)) × ArePages all w pages
pages_to_last all w some paged ordered =
    let page : List Placed = answer_of w all in
    let rest : List Placed = drop w.limit (filter (is_wanted w) all) in
    let others : (pages : List (List Placed)) × AreBehind all w (next_of w page) pages =
    pages_behind all w (length rest) (next_of w page) rest some paged ordered (omega arith) (answer_leaves all w some paged ordered) in
    (page ∷ others.0, (refl, others.1))
