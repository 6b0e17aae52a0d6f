-- One more entry in a sorted list: where it goes, and that the first ones are the same where enough stand before it.
use Rattle.std.proofs.Common.{◌≡◌, ℕ, zero, suc, ◌+◌, ◌≤◌, Bool, true, false, cond, List, [], ◌∷◌, take, get_or, refl, ap, sym, ◌∙◌, subst, zero-add, arith}
use Rattle.ing_parts.specs.Kept.{ahead}
use Rattle.std.specs.List.Sorted.{IsSortedBy, IsPermutation}
use Rattle.std.specs.Cmp.{IsStrictWeakOrder}
use Rattle.std.proofs.lemmas.List.Sums.{sum_by-cons}
use Rattle.std.proofs.lemmas.List.Sorted.{IsPermutation-refl, IsPermutation-sym, IsPermutation-trans, IsPermutation-cons, IsPermutation-middle}

decided : {A : Type 0} (b : Bool) → (b ≡ true → A) → (b ≡ false → A) → A
decided true t f = t refl
decided false t f = f refl

module _ {X : Type 0} (lt : X → X → Bool) where
  -- behind those that stand no later
  abbrev pub inserted : X → List X → List X
  inserted f [] = f ∷ []
  inserted f (g ∷ gs) = cond (lt f g) (f ∷ g ∷ gs) (g ∷ inserted f gs)

  one_more : (f g : X) (gs : List X) → ahead lt f (g ∷ gs) ≡ cond (lt f g) 0 1 + ahead lt f gs
  one_more f g gs = sum_by-cons (λ g. cond (lt f g) 0 1) g gs

  pub inserts : (f : X) (gs : List X) → IsPermutation (f ∷ gs) (inserted f gs)
  inserts f [] = IsPermutation-refl (f ∷ [])
  inserts f (g ∷ gs) = step (lt f g) (inserts f gs) where
    step : (b : Bool) → IsPermutation (f ∷ gs) (inserted f gs) → IsPermutation (f ∷ g ∷ gs) (cond b (f ∷ g ∷ gs) (g ∷ inserted f gs))
    step true rest = IsPermutation-refl (f ∷ g ∷ gs)
    step false rest =
        IsPermutation-trans (f ∷ g ∷ gs) (g ∷ f ∷ gs) (g ∷ inserted f gs)
        (IsPermutation-sym (g ∷ f ∷ gs) (f ∷ g ∷ gs) (IsPermutation-middle (g ∷ []) f gs))
        (IsPermutation-cons g (f ∷ gs) (inserted f gs) rest)

  -- ---- order

  abbrev pub Head : X → List X → Type 0
  Head x [] = Unit {0}
  Head x (y ∷ ys) = lt y x ≡ false

  abbrev pub Rises : List X → Type 0
  Rises [] = Unit {0}
  Rises (x ∷ xs) = Head x xs × Rises xs

  after : (k : ℕ) → suc k + 1 ≡ suc (k + 1)
  after k = omega arith

  pub rises : (xs : List X) → IsSortedBy lt xs → Rises xs
  rises [] h = tt
  rises (x ∷ []) h = (tt, tt)
  rises (x ∷ y ∷ ys) h = (h 0 x (omega arith) (omega arith), rises (y ∷ ys) (λ k d low high. subst (λ n. lt (get_or (x ∷ y ∷ ys) n d) (get_or (y ∷ ys) k d) ≡ false) (after k) (h (suc k) d (omega arith) (omega arith))))

  pub sorts : (xs : List X) → Rises xs → IsSortedBy lt xs
  sorts [] h k d low high = absurd (omega arith)
  sorts (x ∷ []) h k d low high = absurd (omega arith)
  sorts (x ∷ y ∷ ys) h zero d low high = h.0
  sorts (x ∷ y ∷ ys) h (suc k) d low high = subst (λ n. lt (get_or (x ∷ y ∷ ys) n d) (get_or (y ∷ ys) k d) ≡ false) (sym (after k)) (sorts (y ∷ ys) h.1 k d (omega arith) (omega arith))

  head_taken : (n : ℕ) (x : X) (xs : List X) → Head x xs → Head x (take n xs)
  head_taken zero x xs h = tt
  head_taken (suc n) x [] h = tt
  head_taken (suc n) x (y ∷ ys) h = h

  rises_taken : (n : ℕ) (xs : List X) → Rises xs → Rises (take n xs)
  rises_taken zero xs h = tt
  rises_taken (suc n) [] h = tt
  rises_taken (suc n) (x ∷ xs) h = (head_taken n x xs h.0, rises_taken n xs h.1)

  pub sorted_taken : (n : ℕ) (xs : List X) → IsSortedBy lt xs → IsSortedBy lt (take n xs)
  sorted_taken n xs h = sorts (take n xs) (rises_taken n xs (rises xs h))

  module _ (o : IsStrictWeakOrder lt) where
    head_inserted : (f g : X) (gs : List X) → lt f g ≡ false → Head g gs → Head g (inserted f gs)
    head_inserted f g [] e h = e
    head_inserted f g (k ∷ ks) e h = step (lt f k) where
      step : (b : Bool) → Head g (cond b (f ∷ k ∷ ks) (k ∷ inserted f ks))
      step true = e
      step false = h

    rises_inserted : (f : X) (gs : List X) → Rises gs → Rises (inserted f gs)
    rises_inserted f [] h = (tt, tt)
    rises_inserted f (g ∷ gs) h = step (rises_inserted f gs h.1) (lt f g) refl where
      step : Rises (inserted f gs) → (b : Bool) → lt f g ≡ b → Rises (cond b (f ∷ g ∷ gs) (g ∷ inserted f gs))
      step rest true e = (o.one_way f g e, h)
      step rest false e = (head_inserted f g gs e h.0, rest)

    pub sorted_inserted : (f : X) (gs : List X) → IsSortedBy lt gs → IsSortedBy lt (inserted f gs)
    sorted_inserted f gs h = sorts (inserted f gs) (rises_inserted f gs (rises gs h))

    -- where one comes before the first, none stands ahead of it
    none_ahead : (f g : X) (gs : List X) → lt f g ≡ true → Head g gs → Rises gs → ahead lt f gs ≡ 0
    none_ahead f g [] e head h = refl
    none_ahead f g (k ∷ ks) e head h =
        let before : lt f k ≡ true = decided (lt f k) (λ t. t) (λ n. (let not_before : lt f g ≡ false = o.chain f k g n head in absurd cc)) in
        let rest = none_ahead f k ks before h.0 h.1 in
        one_more f k ks ∙ subst (λ b. cond b 0 1 + ahead lt f ks ≡ 0) (sym before) (zero-add (ahead lt f ks) ∙ rest)

    -- what goes behind n others does not change the first n
    first_stay : (n : ℕ) (f : X) (gs : List X) → Rises gs → n ≤ ahead lt f gs → take n (inserted f gs) ≡ take n gs
    first_stay zero f gs h many = refl
    first_stay (suc n) f [] h many = absurd (omega arith)
    first_stay (suc n) f (g ∷ gs) h many = step (λ many. first_stay n f gs h.1 many) (lt f g) refl (subst (λ m. suc n ≤ m) (one_more f g gs) many) where
      step : (n ≤ ahead lt f gs → take n (inserted f gs) ≡ take n gs) → (b : Bool) → lt f g ≡ b → suc n ≤ cond b 0 1 + ahead lt f gs → take (suc n) (cond b (f ∷ g ∷ gs) (g ∷ inserted f gs)) ≡ g ∷ take n gs
      step rest true e many = let none = none_ahead f g gs e h.0 h.1 in absurd (omega arith)
      step rest false e many = ap (λ l. g ∷ l) (rest (omega arith))

    pub first_are_same : (n : ℕ) (f : X) (gs : List X) → IsSortedBy lt gs → n ≤ ahead lt f gs → take n (inserted f gs) ≡ take n gs
    first_are_same n f gs h many = first_stay n f gs (rises gs h) many
