-- Rising lists of places, walked side by side.
use Rattle.std.proofs.Common.{◌≡◌, ℕ, suc, zero, ◌+◌, ◌<◌, ◌≤◌, ◌==◌, nat_lt, inl, inr, length, get_or, take, drop, filter, All, Option, Some, None, Bool, true, false, cond, not, ◌&&◌, ◌||◌, List, [], ◌∷◌, ◌++◌, refl, sym, ap, subst, ◌∙◌, arith, length-drop}
use Rattle.std.specs.List.{list_any, list_all, filter_map, slice_get, cons_option}
use Rattle.std.specs.List.Sorted.{IsNonDecreasing, IsStrictlyIncreasing, IsPartitionPoint}
use Rattle.std.specs.Option.{option_map_or}
use Rattle.std.proofs.lemmas.List.Elements.{All-head, All-tail, filter_agree, filter_more}
use Rattle.std.proofs.lemmas.List.Folds.{list_all_more, list_any_none}
use Rattle.std.proofs.lemmas.List.{get_or-drop, get_or-take, get_or_default, length-take-le}
use Rattle.std.proofs.lemmas.Bool.{cases_lt, cond_both, eqb-false, ltb-false, ltb-true, ne_eqb}
use Rattle.std.proofs.lemmas.Map.Keys.{sorted_from_strictly_increasing, non_decreasing_from_sorted}
use Rattle.std.proofs.lemmas.Option.{slice_get_cases}
use Rattle.ing_labels.specs.Selectors.{Match, match_holds, selects, agrees, asks_for_value}
use Rattle.ing_postings.specs.declared.postings.Listed.{Listed}
use Rattle.ing_postings.specs.Streams.{places_of, picks_at, is_in, selected}
use Rattle.ing_postings.proofs.Places.{in_places}
use Rattle.ing_postings.proofs.Narrowed.{filter_both, holds_labelled}

-- in a rising list with nothing below a place it is the first
pub first_in : (xs : List ℕ) (place : ℕ) → 0 < length xs → IsNonDecreasing xs → All (λ p. place ≤ p) xs → (get_or xs 0 0 == place) ≡ is_in place xs
first_in [] place some rising above = absurd (omega arith)
first_in (x ∷ xs) place some rising above =
    elim (x == place) as (λ b. (x == place) ≡ b → b ≡ (b || is_in place xs)) [
      | true ↦ λ e. refl
      | false ↦ λ e. sym (list_any_none (λ p. p == place) xs (λ k d h. ne_eqb _ place (λ same.
          let least = All-head (λ p. place ≤ p) x xs above in
          let more = rising 0 (suc k) d (omega arith) (omega arith) in
          eqb-false x place e (omega arith))))
    ] refl

-- a front of places below another
pub is_in-drop : (xs : List ℕ) (at q : ℕ) → ((k : ℕ) → k < at → k < length xs → get_or xs k 0 < q) → is_in q (drop at xs) ≡ is_in q xs
is_in-drop [] zero q below = refl
is_in-drop [] (suc at) q below = refl
is_in-drop (x ∷ xs) zero q below = refl
is_in-drop (x ∷ xs) (suc at) q below =
    is_in-drop xs at q (λ k h i. below (suc k) (omega arith) (omega arith)) ∙ ap (λ b. b || is_in q xs) (sym (ne_eqb x q (λ same. let before = below 0 (omega arith) (omega arith) in omega arith)))

-- what is left of a list has the places from an index on as the list has them
abbrev pub SameFrom : List ℕ → ℕ → List ℕ → List ℕ → Type 0
SameFrom places i list rest = (k : ℕ) → i ≤ k → k < length places → is_in (get_or places k 0) rest ≡ is_in (get_or places k 0) list

pub same_more : (places list old new : List ℕ) (i place : ℕ) → IsNonDecreasing places → i < length places → place ≡ get_or places i 0 → ((q : ℕ) → place ≤ q → is_in q new ≡ is_in q old) → SameFrom places i list old → SameFrom places i list new
same_more places list old new i place rising within here rest before k from h =
    rest (get_or places k 0) (subst (λ p. p ≤ get_or places k 0) (sym here) (rising i k 0 from h)) ∙ before k from h

-- one more place is kept, or is not
pub kept_more : (test : ℕ → Bool) (places kept : List ℕ) (i place : ℕ) (b : Bool) → i < length places → place ≡ get_or places i 0 → b ≡ test place → kept ≡ filter test (take i places) → kept ++ cond b (place ∷ []) [] ≡ filter test (take (i + 1) places)
kept_more test places kept i place b within here is before =
    ap (λ t. kept ++ cond t (place ∷ []) []) is
    ∙ ap (λ p. kept ++ cond (test p) (p ∷ []) []) here
    ∙ ap (λ ks. ks ++ cond (test (get_or places i 0)) (get_or places i 0 ∷ []) []) before
    ∙ sym (filter_more test places i 0 within)

-- one more matcher
pub matched_more : (streams : List Listed) (ms : List Match) (i : ℕ) (m : Match) (places old : List ℕ) → i < length ms → m ≡ get_or ms i m → old ≡ filter (λ p. list_all (λ x. picks_at streams x p) (take i ms)) places → filter (picks_at streams m) old ≡ filter (λ p. list_all (λ x. picks_at streams x p) (take (i + 1) ms)) places
matched_more streams ms i m places old within here before =
    ap (filter (picks_at streams m)) before
    ∙ filter_both _ (picks_at streams m) places
    ∙ filter_agree _ _ (λ p.
    ap (λ x. list_all (λ x. picks_at streams x p) (take i ms) && picks_at streams x p) here
    ∙ sym (list_all_more (λ x. picks_at streams x p) ms i m within)) places

pub no_matcher : (streams : List Listed) (places : List ℕ) → places ≡ filter (λ p. list_all (λ x. picks_at streams x p) []) places
no_matcher streams [] = refl
no_matcher streams (p ∷ places) = ap (λ ps. p ∷ ps) (no_matcher streams places)

filter_read : {X Y : Type 0} (h : X → Option Y) (p : X → Bool) (q : Y → Bool) → ((x : X) (y : Y) → h x ≡ Some y → p x ≡ q y) → (xs : List X) → filter_map h (filter p xs) ≡ filter q (filter_map h xs)
filter_read h p q same [] = refl
filter_read h p q same (x ∷ xs) =
    let rest = filter_read h p q same xs in
    elim (h x) as (λ o. h x ≡ o → filter_map h (cond (p x) (x ∷ filter p xs) (filter p xs)) ≡ filter q (cons_option o (filter_map h xs))) [
      | None ↦ λ e. cond_both (p x) (x ∷ filter p xs) (filter p xs) (λ ys. filter_map h ys ≡ filter q (filter_map h xs)) (λ _. ap (λ o. cons_option o (filter_map h (filter p xs))) e ∙ rest) (λ _. rest)
      | Some y ↦ λ e. ap (λ b. filter_map h (cond b (x ∷ filter p xs) (filter p xs))) (same x y e)
          ∙ elim (q y) as (λ b. filter_map h (cond b (x ∷ filter p xs) (filter p xs)) ≡ cond b (y ∷ filter q (filter_map h xs)) (filter q (filter_map h xs))) [
            | true ↦ ap (λ o. cons_option o (filter_map h (filter p xs))) e ∙ ap (λ ys. y ∷ ys) rest
            | false ↦ rest
          ]
    ] refl

-- the streams at the places that are kept
pub read_kept : (xs : List Listed) (ms : List Match) (places : List ℕ) → filter_map (slice_get xs) (filter (λ p. list_all (λ m. picks_at xs m p) ms) places) ≡ selected ms (filter_map (slice_get xs) places)
read_kept xs ms places = filter_read (slice_get xs) _ (λ s. selects ms s.labels) (λ p s e. ap (λ o. list_all (λ m. option_map_or (λ s. match_holds s.labels m) o false) ms) e) places

-- what a list says of a place is what the matcher says of the stream there
pub listed_picks : (xs : List Listed) (x : Match) (places : List ℕ) → not (length x.value == 0) ≡ true → All (λ p. p < length xs) places → filter (λ p. agrees x.op (is_in p (places_of x.name x.value xs))) places ≡ filter (picks_at xs x) places
listed_picks xs x [] some within = refl
listed_picks xs x (p ∷ places) some within =
    let listed : ℕ → Bool = λ p. agrees x.op (is_in p (places_of x.name x.value xs)) in
    let at = All-head (λ p. p < length xs) p places within in
    let same : listed p ≡ picks_at xs x p = elim (slice_get_cases xs p).1 [
      | inl (s, low, read, is) ↦ ap (agrees x.op) (in_places x.name x.value xs p s read) ∙ sym (holds_labelled s.labels x some) ∙ ap (λ o. option_map_or (λ s. match_holds s.labels x) o false) (sym read)
      | inr (past, none) ↦ absurd (omega arith)
    ] in
    ap (λ b. cond b (p ∷ filter listed places) (filter listed places)) same
    ∙ ap (λ ps. cond (picks_at xs x p) (p ∷ ps) ps) (listed_picks xs x places some (All-tail (λ p. p < length xs) p places within))

-- some matcher asks for a value
pub none_asks : (ms : List Match) → list_any asks_for_value ms ≡ true → All (λ m. asks_for_value m ≡ false) ms → ⊥
none_asks ms some none = cc (list_any_none asks_for_value ms none, some)

pub non_decreasing : (xs : List ℕ) → IsStrictlyIncreasing xs → IsNonDecreasing xs
non_decreasing xs rising = non_decreasing_from_sorted xs (sorted_from_strictly_increasing xs rising)

-- a rising list without its front below a place, whose end lies before an end behind which nothing is below it
pub record FrontLeft (list : List ℕ) (place at : ℕ) : Type 0 where
  pub above : All (λ p. place ≤ p) (drop at list)
  pub rest : (q : ℕ) → place ≤ q → is_in q (drop at list) ≡ is_in q list

pub front_left : (list : List ℕ) (place end at : ℕ) → IsNonDecreasing list → end ≤ length list → (end < length list → place ≤ get_or list end 0) → at ≤ length (take end list) → IsPartitionPoint (λ y. nat_lt y place ≡ true) (λ y. nat_lt y place ≡ false) (take end list) at → FrontLeft list place at
front_left list place end at rising within beyond bound split =
    let front : length (take end list) ≡ end = length-take-le end list within in
    record {
      above = λ k d h.
          let inside : at + k < length list = omega (arith, length-drop at list) in
          let here = get_or-drop at list k d in
          subst (λ p. place ≤ p) (sym here) (elim (cases_lt (at + k) end) [
            | inl less ↦ subst (λ p. place ≤ p) (get_or-take end list (at + k) d less) (ltb-false _ place (split.1 (at + k) d (omega arith) (omega arith)))
            | inr more ↦
                let start = beyond (omega arith) in
                let later = rising end (at + k) 0 more inside in
                subst (λ p. place ≤ p) (get_or_default list (at + k) 0 d inside) (omega (arith, start, later))
          ]);
      rest = λ q above. is_in-drop list at q (λ k h i.
          let low = ltb-true _ place (split.0 k 0 (omega arith) h) in
          let same = get_or-take end list k 0 (omega arith) in
          omega (arith, low, same, above));
    }
