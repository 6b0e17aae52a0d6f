-- One of several sealed chunks is replaced by itself at another place.
use Rattle.std.proofs.Common.{◌≡◌, ℕ, zero, suc, ◌+◌, ◌<◌, Bool, true, false, cond, List, [], ◌∷◌, ◌++◌, length, filter, set, take, Some, refl, sym, ap, subst, ◌∙◌, arith, length-append}
use Rattle.std.specs.Prelude.{All, slice_get}
use Rattle.std.proofs.lemmas.Bool.{both_ways, false_from_ne_true}
use Rattle.std.proofs.lemmas.List.Elements.{All-nil, All-cons, All-head, All-tail, filter-append}
use Rattle.ing_rows.specs.Rows.{is_flight}
use Rattle.ing_sealed.specs.Slots.{Slot, IsSlot, AreRising, NoneInFlight, FlyApart, AreSlots}

-- ---- a list around one of its elements

pub record Split {X : Type 0} (xs : List X) (i : ℕ) (x : X) : Type 0 where
  pub front : List X
  pub back : List X
  pub is : xs ≡ front ++ x ∷ back
  pub at : length front ≡ i
  pub taken : take i xs ≡ front
  pub put : (y : X) → set xs i y ≡ front ++ y ∷ back

module _ {X : Type 0} where
  pub split : (xs : List X) (i : ℕ) (x : X) → slice_get xs i ≡ Some x → Split xs i x
  split [] i x h = absurd (cc)
  split (z ∷ xs) zero x h =
      let same : z ≡ x = cc in
      record { front = []; back = xs; is = ap (λ y. y ∷ xs) same; at = refl; taken = refl; put = λ y. refl }
  split (z ∷ xs) (suc i) x h =
      let inner = split xs i x h in
      record {
        front = z ∷ inner.front;
        back = inner.back;
        is = ap (λ l. z ∷ l) inner.is;
        at = ap (λ n. suc n) inner.at;
        taken = ap (λ l. z ∷ l) inner.taken;
        put = λ y. ap (λ l. z ∷ l) (inner.put y);
      }

  pub all_put : (P : X → Type 0) (front : List X) (x y : X) (back : List X) → All P (front ++ x ∷ back) → P y → All P (front ++ y ∷ back)
  all_put P [] x y back h p = All-cons P y back p (All-tail P x back h)
  all_put P (z ∷ front) x y back h p = All-cons P z (front ++ y ∷ back) (All-head P z (front ++ x ∷ back) h) (all_put P front x y back (All-tail P z (front ++ x ∷ back) h) p)

  pub all_there : (P : X → Type 0) (front : List X) (x : X) (back : List X) → All P (front ++ x ∷ back) → P x
  all_there P [] x back h = All-head P x back h
  all_there P (z ∷ front) x back h = all_there P front x back (All-tail P z (front ++ x ∷ back) h)

  pub all_before : (P : X → Type 0) (front : List X) (x : X) (back : List X) → All P (front ++ x ∷ back) → All P front
  all_before P [] x back h = All-nil P
  all_before P (z ∷ front) x back h = All-cons P z front (All-head P z (front ++ x ∷ back) h) (all_before P front x back (All-tail P z (front ++ x ∷ back) h))

  pub all_behind : (P : X → Type 0) (front : List X) (x : X) (back : List X) → All P (front ++ x ∷ back) → All P back
  all_behind P [] x back h = All-tail P x back h
  all_behind P (z ∷ front) x back h = all_behind P front x back (All-tail P z (front ++ x ∷ back) h)

  count_one : (p : X → Bool) (b : Bool) (x : X) (xs : List X) → length (cond b (x ∷ filter p xs) (filter p xs)) ≡ cond b 1 0 + length (filter p xs)
  count_one p true x xs = omega arith
  count_one p false x xs = omega arith

  pub filter_joined : (p : X → Bool) (xs ys : List X) → length (filter p (xs ++ ys)) ≡ length (filter p xs) + length (filter p ys)
  filter_joined p xs ys = ap length (filter-append p xs ys) ∙ length-append (filter p xs) (filter p ys)

  -- how many pass: those before it, itself, those behind it
  pub count_around : (p : X → Bool) (front : List X) (x : X) (back : List X) → length (filter p (front ++ x ∷ back)) ≡ length (filter p front) + (cond (p x) 1 0 + length (filter p back))
  count_around p front x back = filter_joined p front (x ∷ back) ∙ ap (λ n. length (filter p front) + n) (count_one p (p x) x back)

-- ---- sealed chunks around one of them

rising_put : (front : List Slot) (x y : Slot) (back : List Slot) → y.first ≡ x.first → AreRising (front ++ x ∷ back) → AreRising (front ++ y ∷ back)
rising_put [] x y back same h = (subst (λ n. All (λ (z : Slot). n < z.first) back) (sym same) h.0, h.1)
rising_put (z ∷ front) x y back same h = (
  all_put (λ (w : Slot). z.first < w.first) front x y back h.0 (subst (λ n. z.first < n) (sym same) (all_there (λ (w : Slot). z.first < w.first) front x back h.0)),
  rising_put front x y back same h.1,
)

module _ (x y : Slot) where
  apart_put : (front back : List Slot) → ((g : ℕ) → is_flight g y.place ≡ true → NoneInFlight g front) → ((g : ℕ) → is_flight g y.place ≡ true → NoneInFlight g back) → FlyApart (front ++ x ∷ back) → FlyApart (front ++ y ∷ back)
  apart_put [] back before behind h = (behind, h.1)
  apart_put (z ∷ front) back before behind h = (
    λ g flies.
        let away = false_from_ne_true (is_flight g y.place) (λ is. both_ways _ (All-head (λ (w : Slot). is_flight g w.place ≡ false) z front (before g is)) flies) in
        all_put (λ (w : Slot). is_flight g w.place ≡ false) front x y back (h.0 g flies) away,
    apart_put front back (λ g flies. All-tail (λ (w : Slot). is_flight g w.place ≡ false) z front (before g flies)) behind h.1,
  )

  pub slots_put : (front back : List Slot) → y.first ≡ x.first → IsSlot y → ((g : ℕ) → is_flight g y.place ≡ true → NoneInFlight g front) → ((g : ℕ) → is_flight g y.place ≡ true → NoneInFlight g back)
      → AreSlots (front ++ x ∷ back) → AreSlots (front ++ y ∷ back)
  slots_put front back same is before behind h =
      record { each = all_put IsSlot front x y back h.each is; rising = rising_put front x y back same h.rising; apart = apart_put front back before behind h.apart }
