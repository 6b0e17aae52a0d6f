-- A heap, in which one sinks or rises, and the last of all on its top.
use Rattle.std.proofs.Common.{◌≡◌, ℕ, zero, suc, ◌+◌, ◌-◌, ◌*◌, ◌/◌, ◌<◌, ◌≤◌, ◌⊎◌, inl, inr, Bool, true, false, List, [], ◌∷◌, ◌++◌, get_or, set, length, length-append, length-set, refl, ap, sym, ◌∙◌, arith}
use Rattle.std.specs.List.{swap}
use Rattle.std.specs.Cmp.{IsStrictWeakOrder}
use Rattle.std.proofs.lemmas.Bool.{cases_eq}
use Rattle.std.proofs.lemmas.List.{get_or_append_left, get_or-set_other, get_or_default}
use Rattle.std.proofs.lemmas.List.Edits.{Swapped, length-swap, swapped_from_swap}
use Rattle.ing_parts.specs.Kept.{IsHeap, IsHeapBut, IsLastBelow}

either : {A B C : Type 0} → A ⊎ B → (A → C) → (B → C) → C
either (inl a) f g = f a
either (inr b) f g = g b

module _ {X : Type 0} (lt : X → X → Bool) where
  by : (a b x y : X) → a ≡ x → b ≡ y → lt x y ≡ false → lt a b ≡ false
  by a b x y p q h = (λ k. lt (p k) (q k)) ∙ h

  -- what a comparison of two says
  pub compared : (xs : List X) (i j : ℕ) (x y : X) (b : Bool) → i < length xs → j < length xs → x ≡ get_or xs i x → y ≡ get_or xs j y → lt x y ≡ b → (d : X) → lt (get_or xs i d) (get_or xs j d) ≡ b
  compared xs i j x y b p q is at h d =
      let one : get_or xs i d ≡ x = get_or_default xs i d x p ∙ sym is in
      let other : get_or xs j d ≡ y = get_or_default xs j d y q ∙ sym at in
      (λ k. lt (one k) (other k)) ∙ h

  -- where the one at an index does not go behind that above it, nor before those below it
  pub closes : (xs : List X) (j : ℕ) → ((p : ℕ) (d : X) → p * 2 + 1 ≤ j → j ≤ p * 2 + 2 → lt (get_or xs p d) (get_or xs j d) ≡ false) → IsHeapBut lt j xs → IsLastBelow lt j j xs → IsHeap lt xs
  closes xs j over h low = λ p k d a b f. either (cases_eq p j)
      (λ e. by _ _ _ _ (ap (λ m. get_or xs m d) e) refl (low k d (omega arith) (omega arith) f))
      (λ u. either (cases_eq k j)
      (λ e. by _ _ _ _ refl (ap (λ m. get_or xs m d) e) (over p d (omega arith) (omega arith)))
      (λ v. h.0 p k d a b f u v))

  -- no index is below a leaf
  pub leaf : (xs : List X) (j : ℕ) → length xs ≤ j * 2 + 1 → IsLastBelow lt j j xs
  leaf xs j none = λ k d a b f. absurd (omega arith)

  module _ (xs ys : List X) (j c : ℕ) (from : j * 2 + 1 ≤ c) (to : c ≤ j * 2 + 2) (long : c < length xs) (is : ys ≡ swap xs j c) where
    placed : (d : X) → Swapped (λ i. get_or xs i d) (λ i. get_or ys i d) j c
    placed d = swapped_from_swap xs ys j c d (omega arith) long is

    count : length ys ≡ length xs
    count = ap length is ∙ length-swap xs j c

    -- the one at j sinks by one
    pub down : IsLastBelow lt j c xs → IsHeapBut lt j xs → IsHeapBut lt c ys
    down best h = (
      λ p k d a b f u v. let s = placed d in let g : k < length xs = omega (arith, f, count) in either (cases_eq p j)
          (λ e. by _ _ _ _ (ap (λ m. get_or ys m d) e ∙ s.0) (s.2 k (omega arith) v) (best k d (omega arith) (omega arith) g))
          (λ w. either (cases_eq k j)
          (λ e. by _ _ _ _ (s.2 p w u) (ap (λ m. get_or ys m d) e ∙ s.0) (h.1 p c d (omega arith) (omega arith) from to long))
          (λ z. by _ _ _ _ (s.2 p w u) (s.2 k z v) (h.0 p k d a b g w z))),
      λ p k d a b f g i.
          let s = placed d in
          let e : p ≡ j = omega arith in
          let within : k < length xs = omega (arith, i, count) in
          by _ _ _ _ (ap (λ m. get_or ys m d) e ∙ s.0) (s.2 k (omega arith) (omega arith)) (h.0 c k d f g within (omega arith) (omega arith)),
    )

    -- the one at c rises by one
    pub up : IsStrictWeakOrder lt → ((d : X) → lt (get_or xs j d) (get_or xs c d) ≡ true) → IsHeapBut lt c xs → IsHeapBut lt j ys × IsLastBelow lt j j ys
    up o t h = (
      (
        λ p k d a b f u v. let s = placed d in let within : k < length xs = omega (arith, f, count) in either (cases_eq p c)
            (λ e. by _ _ _ _ (ap (λ m. get_or ys m d) e ∙ s.1) (s.2 k v (omega arith)) (h.1 j k d from to (omega arith) (omega arith) within))
            (λ w. let z : k ≡ c → ⊥ = omega arith in by _ _ _ _ (s.2 p u w) (s.2 k v z) (h.0 p k d a b within w z)),
        λ p k d a b f g i.
            let s = placed d in
            let within : k < length xs = omega (arith, i, count) in
            let over = h.0 p j d a b (omega arith) (omega arith) (omega arith) in
            let same = s.2 p (omega arith) (omega arith) in
            either (cases_eq k c)
            (λ e. by _ _ _ _ same (ap (λ m. get_or ys m d) e ∙ s.1) over)
            (λ w. by _ _ _ _ same (s.2 k (omega arith) w) (o.chain _ _ _ over (h.0 j k d f g within (omega arith) w))),
      ),
      λ k d a b f. let s = placed d in let within : k < length xs = omega (arith, f, count) in either (cases_eq k c)
          (λ e. by _ _ _ _ s.0 (ap (λ m. get_or ys m d) e ∙ s.1) (o.one_way _ _ (t d)))
          (λ w. by _ _ _ _ s.0 (s.2 k (omega arith) w) (o.chain _ _ _ (o.one_way _ _ (t d)) (h.0 j k d a b within (omega arith) w))),
    )

  -- another on top
  pub topped : (xs : List X) (x : X) → IsHeap lt xs → IsHeapBut lt 0 (set xs 0 x)
  topped xs x h = (
    λ p k d a b f u v. let within : k < length xs = omega (arith, f, length-set xs 0 x) in
        by _ _ _ _ (get_or-set_other xs 0 p x d u) (get_or-set_other xs 0 k x d v) (h p k d a b within),
    λ p k d a b f g i. absurd (omega arith),
  )

  -- another at the end
  pub pushed : (xs : List X) (x : X) → IsHeap lt xs → IsHeapBut lt (length xs) (xs ++ x ∷ [])
  pushed xs x h =
      let count : length (xs ++ x ∷ []) ≡ length xs + 1 = length-append xs (x ∷ []) in (
        λ p k d a b f u v. let within : k < length xs = omega (arith, f, count) in
            by _ _ _ _ (get_or_append_left xs (x ∷ []) d p (omega arith)) (get_or_append_left xs (x ∷ []) d k within) (h p k d a b within),
        λ p k d a b f g i. absurd (omega (arith, count)),
      )

  module _ (o : IsStrictWeakOrder lt) where
    never : (x : X) (b : Bool) → lt x x ≡ b → lt x x ≡ false
    never x true e = o.one_way x x e
    never x false e = e

    itself : (xs : List X) (j k : ℕ) (d : X) → k ≡ j → lt (get_or xs j d) (get_or xs k d) ≡ false
    itself xs j k d e = by _ _ _ _ refl (ap (λ m. get_or xs m d) e) (never (get_or xs j d) _ refl)

    -- of those below an index one that does not go before the other
    pub only_below : (xs : List X) (j c : ℕ) → c ≡ j * 2 + 1 → length xs ≤ c + 1 → IsLastBelow lt j c xs
    only_below xs j c e none = λ k d a b f. itself xs c k d (omega arith)

    pub first_below : (xs : List X) (j c : ℕ) → c ≡ j * 2 + 1 → ((d : X) → lt (get_or xs c d) (get_or xs (c + 1) d) ≡ false) → IsLastBelow lt j c xs
    first_below xs j c e t = λ k d a b f. either (cases_eq k c) (itself xs c k d)
        (λ u. let p : k ≡ c + 1 = omega arith in by _ _ _ _ refl (ap (λ m. get_or xs m d) p) (t d))

    pub second_below : (xs : List X) (j c : ℕ) → c ≡ j * 2 + 1 → ((d : X) → lt (get_or xs c d) (get_or xs (c + 1) d) ≡ true) → IsLastBelow lt j (c + 1) xs
    second_below xs j c e t = λ k d a b f. either (cases_eq k (c + 1)) (itself xs (c + 1) k d)
        (λ u. let p : k ≡ c = omega arith in by _ _ _ _ refl (ap (λ m. get_or xs m d) p) (o.one_way _ _ (t d)))

    down_to : (xs : List X) (d : X) → IsHeap lt xs → (fuel k : ℕ) → k ≤ fuel → k < length xs → lt (get_or xs 0 d) (get_or xs k d) ≡ false
    down_to xs d h zero k a b = itself xs 0 k d (omega arith)
    down_to xs d h (suc fuel) k a b = either (cases_eq k 0) (itself xs 0 k d)
        (λ u. o.chain _ _ _ (down_to xs d h fuel ((k - 1) / 2) (omega arith) (omega arith)) (h ((k - 1) / 2) k d (omega arith) (omega arith) b))

    -- that on top goes before none
    pub top_is_last : (xs : List X) (k : ℕ) (d : X) → IsHeap lt xs → k < length xs → lt (get_or xs 0 d) (get_or xs k d) ≡ false
    top_is_last xs k d h within = down_to xs d h k k (omega arith) within
