-- What stands once and alike stands so in whatever order.
use Rattle.std.proofs.Common.{◌≡◌, ℕ, Bool, true, false, cond, List, [], ◌∷◌, ◌++◌, ◌+◌, length, length-append, filter, refl, ap, sym, ◌∙◌, arith}
use Rattle.std.specs.Prelude.{All, IsPermutation}
use Rattle.std.proofs.lemmas.List.{nil_from_length}
use Rattle.std.proofs.lemmas.List.Elements.{All-cons, All-head, All-nil, All-tail, filter-append}
use Rattle.std.proofs.lemmas.List.Sorted.{All-permutation, sum_by-IsPermutation}
use Rattle.std.proofs.lemmas.List.Sums.{length-filter}
use Rattle.ing_rows.specs.Rows.{StreamKey}
use Rattle.ing_diary.specs.Notes.{IsAlike, IsUnlike, Note, is_note_at}

pub counted_moved : {X : Type 0} (p : X → Bool) (xs ys : List X) → IsPermutation xs ys → length (filter p ys) ≡ length (filter p xs)
counted_moved p xs ys same = length-filter p ys ∙ sum_by-IsPermutation (λ n. cond (p n) 1 0) xs ys same ∙ sym (length-filter p xs)

true_is_not : (b : Bool) → b ≡ false → b ≡ true → ⊥
true_is_not b is_false is_true = let wrong : false ≡ true = sym is_false ∙ is_true in cc

module _ (p : Note → Bool) (z : Note) where
  -- it is the one, if it passes
  abbrev IsOne : Note → Type 0
  IsOne n = p n ≡ true → n ≡ z

  none_pass : (xs : List Note) → filter p xs ≡ [] → All IsOne xs
  none_pass [] none = All-nil IsOne
  none_pass (x ∷ xs) none = by (p x) refl none (none_pass xs) where
    by : (b : Bool) → p x ≡ b → cond b (x ∷ filter p xs) (filter p xs) ≡ [] → (filter p xs ≡ [] → All IsOne xs) → All IsOne (x ∷ xs)
    by true is none rest = absurd cc
    by false is none rest = All-cons IsOne x xs (λ passes. absurd (true_is_not (p x) is passes)) (rest none)

  one_passes : (xs : List Note) → filter p xs ≡ z ∷ [] → All IsOne xs
  one_passes [] one = absurd cc
  one_passes (x ∷ xs) one = by (p x) refl one (one_passes xs) where
    by : (b : Bool) → p x ≡ b → cond b (x ∷ filter p xs) (filter p xs) ≡ z ∷ [] → (filter p xs ≡ z ∷ [] → All IsOne xs) → All IsOne (x ∷ xs)
    by true is one rest =
        let same : x ≡ z = cc in
        let none : filter p xs ≡ [] = cc in
        All-cons IsOne x xs (λ _. same) (none_pass xs none)
    by false is one rest = All-cons IsOne x xs (λ passes. absurd (true_is_not (p x) is passes)) (rest one)

  passes_alone : (xs : List Note) → All IsOne xs → length (filter p xs) ≡ 1 → filter p xs ≡ z ∷ []
  passes_alone [] all one = absurd cc
  passes_alone (x ∷ xs) all one = by (p x) refl one (passes_alone xs (All-tail IsOne x xs all)) where
    by : (b : Bool) → p x ≡ b → length (cond b (x ∷ filter p xs) (filter p xs)) ≡ 1 → (length (filter p xs) ≡ 1 → filter p xs ≡ z ∷ []) → cond b (x ∷ filter p xs) (filter p xs) ≡ z ∷ []
    by true is one rest =
        let none : filter p xs ≡ [] = nil_from_length (filter p xs) (omega (arith, one)) in
        ap (λ l. x ∷ l) none ∙ ap (λ n. n ∷ []) (All-head IsOne x xs all is)
    by false is one rest = rest one

  one_moved : (xs ys : List Note) → IsPermutation xs ys → filter p xs ≡ z ∷ [] → filter p ys ≡ z ∷ []
  one_moved xs ys same one =
      passes_alone ys (All-permutation IsOne xs ys same (one_passes xs one)) (counted_moved p xs ys same ∙ ap length one)

pub alike_moved : (s : StreamKey) (number : ℕ) (xs xs' ys ys' : List Note) → IsPermutation xs xs' → IsPermutation ys ys' → IsAlike s number xs ys → IsAlike s number xs' ys'
alike_moved s number xs xs' ys ys' one other alike =
    let z : Note = record { stream = s; number = number; entry = alike.entry } in
    record {
      entry = alike.entry;
      one = one_moved (is_note_at s number) z xs xs' one alike.one;
      other = one_moved (is_note_at s number) z ys ys' other alike.other;
    }

-- and so does what does not
pub unlike_moved : (s : StreamKey) (number : ℕ) (xs xs' ys ys' : List Note) → IsPermutation xs xs' → IsPermutation ys ys' → IsUnlike s number xs' ys' → IsUnlike s number xs ys
unlike_moved s number xs xs' ys ys' one other unlike =
    let at = is_note_at s number in
    let count : (ps qs : List Note) → length (filter at (ps ++ qs)) ≡ length (filter at ps) + length (filter at qs) =
    λ ps qs. ap length (filter-append at ps qs) ∙ length-append (filter at ps) (filter at qs) in
    let mine = counted_moved at xs xs' one in
    let theirs = counted_moved at ys ys' other in
    let was = count xs ys in
    let is = count xs' ys' in
    let some = unlike.stands in
    record {
      stands = omega (arith, mine, theirs, was, is, some);
      unlike = λ alike. unlike.unlike (alike_moved s number xs xs' ys ys' one other alike);
    }
