-- Numbers that rise.
use Rattle.std.proofs.Common.{◌≡◌, ℕ, ◌+◌, ◌-◌, ◌<◌, length, map, filter, All, Some, Bool, inl, inr, List, [], ◌∷◌, ◌++◌, ap, arith}
use Rattle.std.specs.List.{slice_get, AllPairs}
use Rattle.std.specs.List.Sorted.{IsStrictlyIncreasing}
use Rattle.std.proofs.lemmas.Bool.{cases_lt}
use Rattle.std.proofs.lemmas.List.{length-map, get_or-map}
use Rattle.std.proofs.lemmas.List.Kept.{AllPairs-filter, AllPairs-from_increasing}
use Rattle.std.proofs.lemmas.List.Quantifiers.{all_pairs_push}
use Rattle.std.proofs.lemmas.Option.{get_or_from_slice_get}
use Rattle.ing_postings.specs.declared.postings.Listed.{Listed}
use Rattle.ing_postings.specs.Streams.{numbers_of}

-- the number of each element is below those of later ones
abbrev pub Rise : {X : Type 0} → (X → ℕ) → List X → Type 0
Rise number = AllPairs (λ x y. number x < number y)

pub increasing_from_rise : {X : Type 0} (number : X → ℕ) (xs : List X) → Rise number xs → IsStrictlyIncreasing (map number xs)
increasing_from_rise number [] rise = λ k h. absurd (omega arith)
increasing_from_rise number (x ∷ xs) rise = λ k h.
    let long = length-map (x ∷ xs) number in
    let one = get_or-map number (x ∷ xs) k x 0 (omega arith) in
    let next = get_or-map number (x ∷ xs) (k + 1) x 0 (omega arith) in
    let apart = rise k (k + 1) x (omega arith) (omega arith) in
    omega arith

streams_rise : (xs : List Listed) → IsStrictlyIncreasing (numbers_of xs) → Rise (λ s. s.number) xs
streams_rise xs rising = λ i j d below within.
    let long = length-map xs (λ (s : Listed). s.number) in
    let one = get_or-map (λ (s : Listed). s.number) xs i d d.number (omega arith) in
    let other = get_or-map (λ (s : Listed). s.number) xs j d d.number within in
    let apart = AllPairs-from_increasing (numbers_of xs) rising i j d.number below (omega arith) in
    omega arith

-- a stream whose number is above all is added
pub rising-push : (xs : List Listed) (s : Listed) → IsStrictlyIncreasing (numbers_of xs) → All (λ t. t.number < s.number) xs → IsStrictlyIncreasing (numbers_of (xs ++ s ∷ []))
rising-push xs s rising above = increasing_from_rise (λ t. t.number) (xs ++ s ∷ []) (all_pairs_push (λ x y. x.number < y.number) xs s (streams_rise xs rising) above)

-- what is kept of them
pub rising-filter : (p : Listed → Bool) (xs : List Listed) → IsStrictlyIncreasing (numbers_of xs) → IsStrictlyIncreasing (numbers_of (filter p xs))
rising-filter p xs rising = increasing_from_rise (λ t. t.number) (filter p xs) (AllPairs-filter (λ x y. x.number < y.number) p xs (streams_rise xs rising))

-- what is above the last number is above all
pub above_last : (xs : List Listed) (s : Listed) (n : ℕ) → IsStrictlyIncreasing (numbers_of xs) → slice_get xs (length xs - 1) ≡ Some s → s.number < n → All (λ t. t.number < n) xs
above_last xs s n rising last above = λ k d h.
    let is = ap (λ (t : Listed). t.number) (get_or_from_slice_get xs (length xs - 1) s d last) in
    elim (cases_lt k (length xs - 1)) [
      | inl before ↦ let apart = streams_rise xs rising k (length xs - 1) d before (omega arith) in omega arith
      | inr end ↦ let same : k ≡ length xs - 1 = omega arith in rw same (omega arith)
    ]
