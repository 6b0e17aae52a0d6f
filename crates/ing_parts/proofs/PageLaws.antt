-- A page and the answer behind its last entry are one answer.
use Rattle.std.proofs.Common.{◌≡◌, ◌+◌, ◌<◌, ◌≤◌, ◌==◌, ◌&&◌, Bool, true, false, cond, ℕ, zero, suc, List, [], ◌∷◌, ◌++◌, append_assoc, bytes_eq, filter, length, length-append, take, drop, nat_le, nat_lt, refl, ap, sym, subst, ◌∙◌, Option, None, Some, arith}
use Rattle.std.specs.Prelude.{IsPermutation}
use Rattle.std.specs.Cmp.{IsStrictWeakOrder}
use Rattle.std.specs.Cmp.Lexicographic.{slice_cmp, texts_ties}
use Rattle.std.specs.List.{AllByRecursion}
use Rattle.std.specs.declared.cmp.Ordering.{Ordering}
use Rattle.std.specs.declared.cmp.Ordering.TheVariants.{Less, Equal, Greater}
use Rattle.std.specs.Ordering.{is_eq, is_lt, nat_cmp, ordering_reverse, ordering_then}
use Rattle.std.proofs.lemmas.Bool.{eq-eqb, true≢false}
use Rattle.std.proofs.lemmas.List.{take-append-drop}
use Rattle.std.proofs.lemmas.List.Elements.{All-from_recursion, filter-append, filter_passes, recursion_from_All}
use Rattle.std.proofs.lemmas.List.Sorted.{All-permutation, IsPermutation-append_right, IsPermutation-sym, IsPermutation-trans, length_permutation}
use Rattle.std.proofs.lemmas.Slice.Eq.{bytes_eq-Decides}
use Rattle.ing_rows.specs.Cursors.{Cursor}
use Rattle.ing_rows.specs.declared.order.Order.{Order}
use Rattle.ing_rows.specs.declared.order.Order.TheVariants.{Forward, Backward}
use Rattle.ing_parts.specs.declared.found.Found.{Found}
use Rattle.ing_parts.specs.Answers.{IsAnswer, StandApart, comes_first, is_at, precedes}
use Rattle.ing_parts.specs.Parts.{behind, found_there, is_behind, is_within, place_of, within}
use Rattle.ing_parts.specs.Questions.{Question}
use Rattle.ing_parts.proofs.Insertion.{Rises, Head, rises, sorts}
use Rattle.ing_parts.proofs.Reordered.{filter_reordered}
use Rattle.ing_parts.proofs.StandLaws.{precedes_is_order, total}

-- ---- what passes a test

module _ {X : Type 0} where
  filter_both : (a b : X → Bool) (xs : List X) → filter (λ x. a x && b x) xs ≡ filter b (filter a xs)
  filter_both a b [] = refl
  filter_both a b (x ∷ xs) = step (a x) (filter_both a b xs) where
    step : (t : Bool) → filter (λ y. a y && b y) xs ≡ filter b (filter a xs) → cond (t && b x) (x ∷ filter (λ y. a y && b y) xs) (filter (λ y. a y && b y) xs) ≡ filter b (cond t (x ∷ filter a xs) (filter a xs))
    step true h = ap (λ l. cond (b x) (x ∷ l) l) h
    step false h = h

  filter_all : (p : X → Bool) (xs : List X) → AllByRecursion (λ x. p x ≡ true) xs → filter p xs ≡ xs
  filter_all p [] h = refl
  filter_all p (x ∷ xs) h = ap (λ b. cond b (x ∷ filter p xs) (filter p xs)) h.0 ∙ ap (λ l. x ∷ l) (filter_all p xs h.1)

  filter_none : (p : X → Bool) (xs : List X) → AllByRecursion (λ x. p x ≡ false) xs → filter p xs ≡ []
  filter_none p [] h = refl
  filter_none p (x ∷ xs) h = ap (λ b. cond b (x ∷ filter p xs) (filter p xs)) h.0 ∙ filter_none p xs h.1

  none_passes : (p : X → Bool) (xs : List X) → length (filter p xs) ≡ 0 → AllByRecursion (λ x. p x ≡ false) xs
  none_passes p [] h = tt
  none_passes p (x ∷ xs) h = step (p x) refl h (none_passes p xs) where
    step : (t : Bool) → p x ≡ t → length (cond t (x ∷ filter p xs) (filter p xs)) ≡ 0 → (length (filter p xs) ≡ 0 → AllByRecursion (λ y. p y ≡ false) xs) → (p x ≡ false) × AllByRecursion (λ y. p y ≡ false) xs
    step true is h rest = absurd (omega (arith, h))
    step false is h rest = (is, rest h)

  fewer : (p t : X → Bool) (xs : List X) → length (filter p (filter t xs)) ≤ length (filter p xs)
  fewer p t [] = omega arith
  fewer p t (x ∷ xs) = step (t x) (p x) refl (fewer p t xs) where
    step : (a b : Bool) → p x ≡ b → length (filter p (filter t xs)) ≤ length (filter p xs) → length (filter p (cond a (x ∷ filter t xs) (filter t xs))) ≤ length (cond b (x ∷ filter p xs) (filter p xs))
    step true true is h =
        let here : filter p (x ∷ filter t xs) ≡ x ∷ filter p (filter t xs) = ap (λ c. cond c (x ∷ filter p (filter t xs)) (filter p (filter t xs))) is in
        omega (arith, h, ap length here)
    step true false is h =
        let here : filter p (x ∷ filter t xs) ≡ filter p (filter t xs) = ap (λ c. cond c (x ∷ filter p (filter t xs)) (filter p (filter t xs))) is in
        omega (arith, h, ap length here)
    step false true is h = omega (arith, h)
    step false false is h = h

  -- ---- each of a list

  each_weaker : (P Q : X → Type 0) → ((x : X) → P x → Q x) → (xs : List X) → AllByRecursion P xs → AllByRecursion Q xs
  each_weaker P Q wider [] h = tt
  each_weaker P Q wider (x ∷ xs) h = (wider x h.0, each_weaker P Q wider xs h.1)

  each_left : (P : X → Type 0) (xs ys : List X) → AllByRecursion P (xs ++ ys) → AllByRecursion P xs
  each_left P [] ys h = tt
  each_left P (x ∷ xs) ys h = (h.0, each_left P xs ys h.1)

  each_right : (P : X → Type 0) (xs ys : List X) → AllByRecursion P (xs ++ ys) → AllByRecursion P ys
  each_right P [] ys h = h
  each_right P (x ∷ xs) ys h = each_right P xs ys h.1

  each_both : (P : X → Type 0) (xs ys : List X) → AllByRecursion P xs → AllByRecursion P ys → AllByRecursion P (xs ++ ys)
  each_both P [] ys h k = k
  each_both P (x ∷ xs) ys h k = (h.0, each_both P xs ys h.1 k)

  each_permuted : (P : X → Type 0) (xs ys : List X) → IsPermutation xs ys → AllByRecursion P xs → AllByRecursion P ys
  each_permuted P xs ys same h = recursion_from_All P ys (All-permutation P xs ys same (All-from_recursion P xs h))

  take_behind : (xs ys : List X) (k : ℕ) → take (length xs + k) (xs ++ ys) ≡ xs ++ take k ys
  take_behind [] ys k = ap (λ m. take m ys) (omega arith)
  take_behind (x ∷ xs) ys k =
      let more : length (x ∷ xs) + k ≡ suc (length xs + k) = omega arith in
      ap (λ m. take m (x ∷ xs ++ ys)) more ∙ ap (λ l. x ∷ l) (take_behind xs ys k)

  take_whole : (n : ℕ) (xs : List X) → length (take n xs) < n → take n xs ≡ xs
  take_whole zero xs h = absurd (omega (arith, h))
  take_whole (suc n) [] h = refl
  take_whole (suc n) (x ∷ xs) h = ap (λ l. x ∷ l) (take_whole n xs (omega (arith, h)))

-- ---- lists in order

module _ {X : Type 0} (lt : X → X → Bool) (order : IsStrictWeakOrder lt) where
  -- none stands later than one behind it
  abbrev Far : List X → Type 0
  Far [] = Unit {0}
  Far (x ∷ xs) = AllByRecursion (λ y. lt y x ≡ false) xs × Far xs

  behind_head : (x : X) (xs : List X) → Head lt x xs → Far xs → AllByRecursion (λ y. lt y x ≡ false) xs
  behind_head x [] h far = tt
  behind_head x (y ∷ ys) h far = (h, each_weaker (λ z. lt z y ≡ false) (λ z. lt z x ≡ false) (λ z k. order.chain z y x k h) ys far.0)

  far_of : (xs : List X) → Rises lt xs → Far xs
  far_of [] h = tt
  far_of (x ∷ xs) h = let rest = far_of xs h.1 in (behind_head x xs h.0 rest, rest)

  rises_of : (xs : List X) → Far xs → Rises lt xs
  rises_of [] h = tt
  rises_of (x ∷ []) h = (tt, tt)
  rises_of (x ∷ y ∷ ys) h = (h.0.0, rises_of (y ∷ ys) h.1)

  far_left : (xs ys : List X) → Far (xs ++ ys) → Far xs
  far_left [] ys h = tt
  far_left (x ∷ xs) ys h = (each_left (λ y. lt y x ≡ false) xs ys h.0, far_left xs ys h.1)

  far_right : (xs ys : List X) → Far (xs ++ ys) → Far ys
  far_right [] ys h = h
  far_right (x ∷ xs) ys h = far_right xs ys h.1

  far_across : (xs ys : List X) → Far (xs ++ ys) → AllByRecursion (λ x. AllByRecursion (λ y. lt y x ≡ false) ys) xs
  far_across [] ys h = tt
  far_across (x ∷ xs) ys h = (each_right (λ y. lt y x ≡ false) xs ys h.0, far_across xs ys h.1)

  far_both : (xs ys : List X) → Far xs → Far ys → AllByRecursion (λ x. AllByRecursion (λ y. lt y x ≡ false) ys) xs → Far (xs ++ ys)
  far_both [] ys h k across = k
  far_both (x ∷ xs) ys h k across = (each_both (λ y. lt y x ≡ false) xs ys h.0 across.0, far_both xs ys h.1 k across.1)

  through : (x y z : X) → lt x y ≡ true → lt y z ≡ true → lt x z ≡ true
  through x y z h k = by (lt x z) refl where
    by : (t : Bool) → lt x z ≡ t → lt x z ≡ true
    by true is = is
    by false is = absurd (true≢false (sym h ∙ order.chain x z y is (order.one_way y z k)))

  not_itself : (x : X) → lt x x ≡ false
  not_itself x = by (lt x x) refl where
    by : (t : Bool) → lt x x ≡ t → lt x x ≡ false
    by true is = order.one_way x x is
    by false is = is

-- ---- entries of one place

neither : (r s : Ordering) → r ≡ ordering_reverse s → is_lt r ≡ false → is_lt s ≡ false → r ≡ Equal
neither Less s turned h k = absurd (true≢false h)
neither Equal s turned h k = refl
neither Greater Less turned h k = absurd (true≢false k)
neither Greater Equal turned h k = absurd (cc)
neither Greater Greater turned h k = absurd (cc)

both_equal : (a b : Ordering) → ordering_then a b ≡ Equal → (a ≡ Equal) × (b ≡ Equal)
both_equal Equal b h = (refl, h)
both_equal Less b h = absurd (cc)
both_equal Greater b h = absurd (cc)

number_tied : (a b : ℕ) → nat_cmp a b ≡ Equal → (a == b) ≡ true
number_tied a b h = by (nat_lt a b) (a == b) h where
  by : (t u : Bool) → cond t Less (cond u Equal Greater) ≡ Equal → u ≡ true
  by true u h = absurd (cc)
  by false true h = refl
  by false false h = absurd (cc)

-- of two of which neither comes first, the one is at the other's place
tied_first : (c f : Found) → comes_first f c ≡ false → comes_first c f ≡ false → is_at c.name c.number f ≡ true
tied_first c f h k =
    let same = neither _ _ (total.antisymm f c) h k in
    let rest = (both_equal (nat_cmp f.entry.stamp c.entry.stamp) _ same).1 in
    let parts = both_equal (slice_cmp nat_cmp f.name c.name) (nat_cmp f.number c.number) rest in
    let name : bytes_eq f.name c.name ≡ true = texts_ties f.name c.name ∙ ap is_eq parts.0 in
    let number : (f.number == c.number) ≡ true = number_tied f.number c.number parts.1 in
    (λ i. name i && number i)

tied : (order : Order) (c f : Found) → precedes order f c ≡ false → precedes order c f ≡ false → is_at c.name c.number f ≡ true
tied Forward c f h k = tied_first c f h k
tied Backward c f h k = tied_first c f k h

-- ---- behind an entry

there_is : (order : Order) (c f : Found) → precedes order (found_there (place_of c)) f ≡ precedes order c f
there_is Forward c f = refl
there_is Backward c f = refl

-- what stands behind an entry stands behind what that stands behind
behind_too : (order : Order) (after : Option Cursor) (c f : Found) → is_behind order after c ≡ true → precedes order c f ≡ true → is_behind order after f ≡ true
behind_too order None c f h k = refl
behind_too order (Some d) c f h k = through (precedes order) (precedes_is_order order) (found_there d) c f h k

second_true : (a b : Bool) → (a && b) ≡ true → b ≡ true
second_true true b h = h
second_true false b h = absurd (cc)

kept_true : (a b : Bool) → b ≡ true → (a && true) ≡ ((a && b) && true)
kept_true true true is = refl
kept_true true false is = absurd (cc)
kept_true false b is = refl

both_false : (a b : Bool) → (a && false) ≡ ((a && b) && false)
both_false true true = refl
both_false true false = refl
both_false false b = refl

module _ (q : Question) (c : Found) where
  module _ (inside : is_within q c ≡ true) where
    -- wanted behind an entry is what is wanted and stands behind it
    behind_is : (f : Found) → is_within (behind c q) f ≡ (is_within q f && precedes q.order c f)
    behind_is f = ap (λ b. a && b) (there_is q.order c f) ∙ by (precedes q.order c f) refl where
      a : Bool
      a = nat_le q.start f.entry.stamp && nat_lt f.entry.stamp q.end

      by : (t : Bool) → precedes q.order c f ≡ t → (a && precedes q.order c f) ≡ ((a && is_behind q.order q.after f) && precedes q.order c f)
      by true is =
          ap (λ b. a && b) is ∙ kept_true a (is_behind q.order q.after f) (behind_too q.order q.after c f (second_true _ _ inside) is)
          ∙ ap (λ b. (a && is_behind q.order q.after f) && b) (sym is)
      by false is = ap (λ b. a && b) is ∙ both_false a (is_behind q.order q.after f) ∙ ap (λ b. (a && is_behind q.order q.after f) && b) (sym is)

    wanted_behind : (all : List Found) → within (behind c q) all ≡ filter (precedes q.order c) (within q all)
    wanted_behind all = (λ i. filter (λ f. behind_is f i) all) ∙ filter_both (is_within q) (precedes q.order c) all

  itself : is_at c.name c.number c ≡ true
  itself = (λ i. (bytes_eq-Decides c.name c.name).1 refl i && eq-eqb c.number c.number refl i)

  -- no other stands at its place
  alone : (front back : List Found) → length (filter (is_at c.name c.number) (front ++ c ∷ back)) ≤ 1 → AllByRecursion (λ f. is_at c.name c.number f ≡ false) back
  alone front back few =
      let p = is_at c.name c.number in
      let parts : length (filter p (front ++ c ∷ back)) ≡ length (filter p front) + length (filter p (c ∷ back)) = ap length (filter-append p front (c ∷ back)) ∙ length-append (filter p front) (filter p (c ∷ back)) in
      let here : filter p (c ∷ back) ≡ c ∷ filter p back = ap (λ b. cond b (c ∷ filter p back) (filter p back)) itself in
      none_passes p back (omega (arith, few, parts, ap length here))

  pub pages_join : (all page rest front : List Found) (more : ℕ) → StandApart all → page ≡ front ++ c ∷ [] → length page ≡ q.limit → IsAnswer q.order q.limit (within q all) page
      → IsAnswer q.order more (within (behind c q) all) rest → IsAnswer q.order (q.limit + more) (within q all) (page ++ rest)
  pages_join all page rest front more apart is count one other =
      let lt = precedes q.order in
      let o = precedes_is_order q.order in
      let p = is_at c.name c.number in
      let wanted = within q all in
      let s = one.sorted in
      let back = drop q.limit s in
      let split : s ≡ page ++ back = sym (take-append-drop q.limit s) ∙ ap (λ l. l ++ back) (sym one.cut) in
      let there : s ≡ front ++ c ∷ back = split ∙ ap (λ l. l ++ back) is ∙ append_assoc front (c ∷ []) back in
      let far = far_of lt o s (rises lt s one.in_order) in
      let spread = subst (Far lt o) there far in
      let paged = subst (Far lt o) split far in
      let passes = each_permuted (λ f. is_within q f ≡ true) wanted s one.same (recursion_from_All (λ f. is_within q f ≡ true) wanted (filter_passes (is_within q) all)) in
      let inside : is_within q c ≡ true = (each_right (λ f. is_within q f ≡ true) front (c ∷ back) (subst (AllByRecursion (λ f. is_within q f ≡ true)) there passes)).0 in
      let few : length (filter p (front ++ c ∷ back)) ≤ 1 =
      subst (λ l. length (filter p l) ≤ 1) there
      (omega (arith, apart c.name c.number, fewer p (is_within q) all, length_permutation (filter p wanted) (filter p s) (filter_reordered p wanted s one.same))) in
      let not_there = alone front back few in
      let later = (far_right lt o front (c ∷ back) spread).0 in
      let ahead : AllByRecursion (λ f. lt c f ≡ true) back = each_ahead back not_there later in
      let before : AllByRecursion (λ f. lt c f ≡ false) front =
      each_weaker (λ f. AllByRecursion (λ y. lt y f ≡ false) (c ∷ back)) (λ f. lt c f ≡ false) (λ f h. h.0) front (far_across lt o front (c ∷ back) spread) in
      let kept : filter (lt c) s ≡ back =
      ap (filter (lt c)) there ∙ filter-append (lt c) front (c ∷ back) ∙ ap (λ l. l ++ filter (lt c) (c ∷ back)) (filter_none (lt c) front before)
      ∙ ap (λ b. cond b (c ∷ filter (lt c) back) (filter (lt c) back)) (not_itself lt o c) ∙ filter_all (lt c) back ahead in
      let same : IsPermutation (within (behind c q) all) back =
      subst (λ l. IsPermutation l back) (sym (wanted_behind inside all)) (subst (IsPermutation (filter (lt c) wanted)) kept (filter_reordered (lt c) wanted s one.same)) in
      let next = other.sorted in
      let turned : IsPermutation back next = IsPermutation-trans back (within (behind c q) all) next (IsPermutation-sym (within (behind c q) all) back same) other.same in
      let across : AllByRecursion (λ x. AllByRecursion (λ y. lt y x ≡ false) next) page =
      each_weaker (λ x. AllByRecursion (λ y. lt y x ≡ false) back) (λ x. AllByRecursion (λ y. lt y x ≡ false) next) (λ x h. each_permuted (λ y. lt y x ≡ false) back next turned h) page (far_across lt o page back paged) in
      record {
        sorted = page ++ next;
        same = IsPermutation-trans wanted s (page ++ next) one.same (subst (λ l. IsPermutation l (page ++ next)) (sym split) (IsPermutation-append_right page back next turned));
        in_order = sorts lt (page ++ next) (rises_of lt o (page ++ next) (far_both lt o page next (far_left lt o page back paged) (far_of lt o next (rises lt next other.in_order)) across));
        cut = ap (λ l. page ++ l) other.cut ∙ sym (take_behind page next more) ∙ ap (λ m. take (m + more) (page ++ next)) count;
      } where
        each_ahead : (fs : List Found) → AllByRecursion (λ f. is_at c.name c.number f ≡ false) fs → AllByRecursion (λ f. precedes q.order f c ≡ false) fs → AllByRecursion (λ f. precedes q.order c f ≡ true) fs
        each_ahead [] h k = tt
        each_ahead (f ∷ fs) h k = (by (precedes q.order c f) refl, each_ahead fs h.1 k.1) where
          by : (t : Bool) → precedes q.order c f ≡ t → precedes q.order c f ≡ true
          by true is = is
          by false is = absurd (true≢false (sym (tied q.order c f k.0 is) ∙ h.0))

-- a page that is not full has all
pub page_is_all : (order : Order) (limit : ℕ) (all page : List Found) → IsAnswer order limit all page → length page < limit → IsPermutation all page
page_is_all order limit all page one short =
    let whole = take_whole limit one.sorted (omega (arith, short, ap length one.cut)) in
    subst (IsPermutation all) (sym whole ∙ sym one.cut) one.same
