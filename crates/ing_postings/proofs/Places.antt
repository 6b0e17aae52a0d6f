-- The places of streams with a label.
use Rattle.std.proofs.Common.{◌≡◌, ℕ, ◌+◌, ◌<◌, ◌==◌, ◌&&◌, ◌||◌, length, map, filter, All, Any, Option, Some, Bool, true, false, cond, List, [], ◌∷◌, ◌++◌, refl, sym, ap, subst, ◌∙◌, arith}
use Rattle.std.specs.List.{slice_get, filter_map, cons_option, enumerate_from, list_any}
use Rattle.std.specs.List.Sorted.{IsStrictlyIncreasing}
use Rattle.std.proofs.lemmas.Bool.{and_parts, and_from, eqb-true, eq-eqb}
use Rattle.std.proofs.lemmas.Bool.Decides.{same_from_decides}
use Rattle.std.proofs.lemmas.List.{map-append}
use Rattle.std.proofs.lemmas.List.Elements.{All-head, All-tail, All-map, All-filter, All-contains, filter-append}
use Rattle.std.proofs.lemmas.List.Folds.{Any-from_list_any, list_any_at}
use Rattle.std.proofs.lemmas.List.FromFn.{length-enumerate_from, get_or-enumerate_from}
use Rattle.std.proofs.lemmas.List.Kept.{AllPairs-filter}
use Rattle.std.proofs.lemmas.Option.{slice_get_within, slice_get-get_or, get_or_from_slice_get}
use Rattle.ing_postings.specs.declared.postings.Listed.{Listed}
use Rattle.ing_postings.specs.Streams.{has_label, places_of, is_in}
use Rattle.ing_postings.proofs.Numbers.{increasing_from_rise}

-- the places, counted from k, of the streams that pass a test
abbrev pub places_from : (Listed → Bool) → ℕ → List Listed → List ℕ
places_from q k xs = map (λ e. e.0) (filter (λ e. q e.1) (enumerate_from k xs))

enumerate_from-push : (k : ℕ) (xs : List Listed) (s : Listed) → enumerate_from k (xs ++ s ∷ []) ≡ enumerate_from k xs ++ (k + length xs, s) ∷ []
enumerate_from-push k [] s = let e : k ≡ k + 0 = omega arith in ap (λ i. (i, s) ∷ []) e
enumerate_from-push k (x ∷ xs) s =
    let e : k + 1 + length xs ≡ k + length (x ∷ xs) = omega arith in
    ap (λ es. (k, x) ∷ es) (enumerate_from-push (k + 1) xs s) ∙ ap (λ i. (k, x) ∷ (enumerate_from (k + 1) xs ++ (i, s) ∷ [])) e

-- one more stream
pub places-push : (name value : List ℕ) (xs : List Listed) (s : Listed) → places_of name value (xs ++ s ∷ []) ≡ places_of name value xs ++ cond (has_label name value s.labels) (length xs ∷ []) []
places-push name value xs s =
    let q : ℕ × Listed → Bool = λ e. has_label name value e.1.labels in
    let pair : ℕ × Listed = (length xs, s) in
    let last : map (λ e. e.0) (filter q (pair ∷ [])) ≡ cond (has_label name value s.labels) (length xs ∷ []) [] =
    elim (has_label name value s.labels) as (λ b. map (λ e. e.0) (cond b (pair ∷ []) []) ≡ cond b (length xs ∷ []) []) [ true ↦ refl | false ↦ refl ] in
    let zero_more : 0 + length xs ≡ length xs = omega arith in
    ap (λ es. map (λ e. e.0) (filter q es)) (enumerate_from-push 0 xs s ∙ ap (λ i. enumerate_from 0 xs ++ (i, s) ∷ []) zero_more)
    ∙ ap (map (λ e. e.0)) (filter-append q (enumerate_from 0 xs) (pair ∷ []))
    ∙ map-append (λ e. e.0) (filter q (enumerate_from 0 xs)) (filter q (pair ∷ []))
    ∙ ap (λ ps. places_of name value xs ++ ps) last

-- each stream stands at its place
placed : (xs : List Listed) → All (λ e. slice_get xs e.0 ≡ Some e.1) (enumerate_from 0 xs)
placed xs = λ k e h.
    let long = length-enumerate_from 0 xs in
    let within : k < length xs = omega arith in
    let zero_more : 0 + k ≡ k = omega arith in
    subst (λ (p : ℕ × Listed). slice_get xs p.0 ≡ Some p.1) (sym (get_or-enumerate_from 0 xs k e within)) (ap (slice_get xs) zero_more ∙ slice_get-get_or xs k e.1 within)

-- each is the place of a stream
pub places_within : (name value : List ℕ) (xs : List Listed) → All (λ p. p < length xs) (places_of name value xs)
places_within name value xs =
    All-map (λ p. p < length xs) (λ (e : ℕ × Listed). e.0) _ (All-filter (λ e. has_label name value e.1.labels) (λ e. e.0 < length xs) (enumerate_from 0 xs) (λ k e h. slice_get_within xs _ _ (placed xs k e h)))

read_from : (q : Listed → Bool) (f : ℕ → Option Listed) (k : ℕ) (xs : List Listed) → All (λ e. f e.0 ≡ Some e.1) (enumerate_from k xs) → filter_map f (places_from q k xs) ≡ filter q xs
read_from q f k [] reads = refl
read_from q f k (x ∷ xs) reads =
    let here = All-head (λ (e : ℕ × Listed). f e.0 ≡ Some e.1) (k, x) (enumerate_from (k + 1) xs) reads in
    let rest = read_from q f (k + 1) xs (All-tail (λ (e : ℕ × Listed). f e.0 ≡ Some e.1) (k, x) (enumerate_from (k + 1) xs) reads) in
    elim (q x) as (λ b. filter_map f (map (λ e. e.0) (cond b ((k, x) ∷ filter (λ e. q e.1) (enumerate_from (k + 1) xs)) (filter (λ e. q e.1) (enumerate_from (k + 1) xs)))) ≡ cond b (x ∷ filter q xs) (filter q xs)) [
      | true ↦ ap (λ o. cons_option o (filter_map f (places_from q (k + 1) xs))) here ∙ ap (λ ss. x ∷ ss) rest
      | false ↦ rest
    ]

-- the streams at these places are those with the label
pub places_read : (name value : List ℕ) (xs : List Listed) → filter_map (slice_get xs) (places_of name value xs) ≡ filter (λ s. has_label name value s.labels) xs
places_read name value xs = read_from (λ s. has_label name value s.labels) (slice_get xs) 0 xs (placed xs)

-- the places of a label rise
pub places_rise : (name value : List ℕ) (xs : List Listed) → IsStrictlyIncreasing (places_of name value xs)
places_rise name value xs =
    increasing_from_rise (λ e. e.0) _ (AllPairs-filter (λ x y. x.0 < y.0) (λ e. has_label name value e.1.labels) (enumerate_from 0 xs) (λ i j d below within.
    let long = length-enumerate_from 0 xs in
    let one = ap (λ (e : ℕ × Listed). e.0) (get_or-enumerate_from 0 xs i d (omega arith)) in
    let other = ap (λ (e : ℕ × Listed). e.0) (get_or-enumerate_from 0 xs j d (omega arith)) in
    omega arith))

any_kept : (q : ℕ × Listed → Bool) (p : ℕ) (es : List (ℕ × Listed)) → is_in p (map (λ e. e.0) (filter q es)) ≡ list_any (λ e. q e && (e.0 == p)) es
any_kept q p [] = refl
any_kept q p (e ∷ es) =
    elim (q e) as (λ b. is_in p (map (λ e. e.0) (cond b (e ∷ filter q es) (filter q es))) ≡ (b && (e.0 == p) || list_any (λ e. q e && (e.0 == p)) es)) [
      | true ↦ ap (λ b. (e.0 == p) || b) (any_kept q p es)
      | false ↦ any_kept q p es
    ]

-- a place is among those of a label where its stream has it
pub in_places : (name value : List ℕ) (xs : List Listed) (p : ℕ) (s : Listed) → slice_get xs p ≡ Some s → is_in p (places_of name value xs) ≡ has_label name value s.labels
in_places name value xs p s here =
    let q : ℕ × Listed → Bool = λ e. has_label name value e.1.labels && (e.0 == p) in
    let within = slice_get_within xs p s here in
    let long = length-enumerate_from 0 xs in
    let zero_more : 0 + p ≡ p = omega arith in
    let is = get_or-enumerate_from 0 xs p (p, s) within ∙ (λ i. (zero_more i, get_or_from_slice_get xs p s s here i)) in
    any_kept (λ e. has_label name value e.1.labels) p (enumerate_from 0 xs)
    ∙ same_from_decides {P = has_label name value s.labels ≡ true} _ _ (
      λ h. there (Any-from_list_any q (enumerate_from 0 xs) h),
      λ h. list_any_at q (enumerate_from 0 xs) p (p, s) (omega arith) (subst (λ e. q e ≡ true) (sym is) (and_from _ _ h (eq-eqb p p refl))),
    ) (λ h. h, λ h. h) where
      there : Any (λ e. (has_label name value e.1.labels && (e.0 == p)) ≡ true) (enumerate_from 0 xs) → has_label name value s.labels ≡ true
      there (k, e, within, is, passes) =
          let parts = and_parts _ _ passes in
          let read = All-contains (λ (e : ℕ × Listed). slice_get xs e.0 ≡ Some e.1) (enumerate_from 0 xs) e (placed xs) (k, within, is) in
          let both = sym read ∙ ap (slice_get xs) (eqb-true e.0 p parts.1) ∙ here in
          let same : e.1 ≡ s = cc in
          ap (λ t. has_label name value t.labels) (sym same) ∙ parts.0
