-- A chunk that covers its numbers has its first number once.
use Rattle.std.proofs.Common.{◌≡◌, ℕ, zero, suc, ◌+◌, ◌<◌, ◌≤◌, ◌&&◌, ◌||◌, Bool, true, false, cond, nat_eq, nat_le, nat_lt, List, [], ◌∷◌, length, refl, sym, subst, ◌∙◌, arith, length-append}
use Rattle.std.specs.List.{AllByRecursion}
use Rattle.std.proofs.lemmas.Bool.{eqb-true}
use Rattle.std.proofs.lemmas.Bool.Decides.{nat_tests}
use Rattle.std.proofs.lemmas.List.Sums.{sum_by-append, sum_by-cons}
use Rattle.ing_chunk.specs.declared.numbered.Numbered.{Numbered}
use Rattle.ing_chunk.specs.Parts.{AreApart, AreNumbered, AreParts, IsPart, IsWithin, is_taken}
use Rattle.ing_chunk.specs.Chunks.{ChunkContents, Covers, count_in, in_blocks, starts, starts_in}
use Rattle.ing_chunk.proofs.Covered.{has, none_below}

-- ---- how often a number is there

more : (n : ℕ) (e : Numbered) (es : List Numbered) → starts n (e ∷ es) ≡ cond (nat_eq e.number n) 1 0 + starts n es
more n e es = sum_by-cons (has n) e es

none_there : (n : ℕ) (es : List Numbered) → is_taken n es ≡ false → starts n es ≡ 0
none_there n [] h = refl
none_there n (e ∷ es) h = more n e es ∙ step (nat_eq e.number n) h (none_there n es) where
  step : (b : Bool) → (b || is_taken n es) ≡ false → (is_taken n es ≡ false → starts n es ≡ 0) → cond b 1 0 + starts n es ≡ 0
  step true is rest = absurd (cc)
  step false is rest = let none = rest is in omega (arith, none)

at_most_once : (n : ℕ) (es : List Numbered) → AreApart es → starts n es ≤ 1
at_most_once n [] h = omega arith
at_most_once n (e ∷ es) h = subst (λ k. k ≤ 1) (sym (more n e es)) (step (nat_eq e.number n) refl (at_most_once n es h.1)) where
  step : (b : Bool) → nat_eq e.number n ≡ b → starts n es ≤ 1 → cond b 1 0 + starts n es ≤ 1
  step true is rest = let none : starts n es ≡ 0 = none_there n es (subst (λ k. is_taken k es ≡ false) (eqb-true e.number n is) h.0) in omega (arith, none)
  step false is rest = omega (arith, rest)

none_outside : (n from count : ℕ) (es : List Numbered) → AllByRecursion (IsWithin from count) es → n < from → starts n es ≡ 0
none_outside n from count [] h low = refl
none_outside n from count (e ∷ es) h low = grind (arith, nat_tests, more n e es, h.0.low, none_outside n from count es h.1 low)

-- ---- so many numbers from one on

abbrev total : ℕ → ℕ → List Numbered → ℕ
total from zero es = 0
total from (suc n) es = starts (from + n) es + total from n es

total_none : (from n : ℕ) → total from n [] ≡ 0
total_none from zero = refl
total_none from (suc n) = let rest = total_none from n in omega (arith, rest)

-- what one entry adds
total_more : (from n : ℕ) (e : Numbered) (es : List Numbered) → total from n (e ∷ es) ≡ cond (nat_le from e.number && nat_lt e.number (from + n)) 1 0 + total from n es
total_more from zero e es = none from e.number where
  none : (from m : ℕ) → 0 ≡ cond (nat_le from m && nat_lt m (from + 0)) 1 0 + 0
  none from m = grind (arith, nat_tests)
total_more from (suc n) e es = step from n e.number (starts (from + n) (e ∷ es)) (starts (from + n) es) (total from n (e ∷ es)) (total from n es) (more (from + n) e es) (total_more from n e es) where
  step : (from n m now was all rest : ℕ) → now ≡ cond (nat_eq m (from + n)) 1 0 + was → all ≡ cond (nat_le from m && nat_lt m (from + n)) 1 0 + rest
      → now + all ≡ cond (nat_le from m && nat_lt m (from + suc n)) 1 0 + (was + rest)
  step from n m now was all rest h k = grind (arith, nat_tests)

-- entries of these numbers alone
all_counted : (from n : ℕ) (es : List Numbered) → AllByRecursion (IsWithin from n) es → total from n es ≡ length es
all_counted from n [] h = total_none from n
all_counted from n (e ∷ es) h = step from n e.number (total from n (e ∷ es)) (total from n es) (length es) (total_more from n e es) h.0.low h.0.high (all_counted from n es h.1) where
  step : (from n m now was count : ℕ) → now ≡ cond (nat_le from m && nat_lt m (from + n)) 1 0 + was → from ≤ m → m < from + n → was ≡ count → now ≡ suc count
  step from n m now was count h low high rest = grind (arith, nat_tests)

module _ (from : ℕ) (es : List Numbered) (few : (n : ℕ) → starts n es ≤ 1) where
  total_few : (n : ℕ) → total from n es ≤ n
  total_few zero = omega arith
  total_few (suc n) = let top = few (from + n) in let rest = total_few n in omega (arith, top, rest)

  -- where they are as many as the numbers, the first is there
  first_once : (n : ℕ) → total from (suc n) es ≡ suc n → starts from es ≡ 1
  first_once zero all = let same : from + 0 ≡ from = omega arith in subst (λ k. starts k es ≡ 1) same (omega (arith, all))
  first_once (suc n) all =
      let top = few (from + suc n) in
      let rest = total_few (suc n) in
      first_once n (omega (arith, all, top, rest))

part_once : (from : ℕ) (b : List Numbered) → IsPart from b → starts from b ≡ 1
part_once from [] h = absurd (h.some refl)
part_once from (e ∷ es) h = first_once from (e ∷ es) (λ n. at_most_once n (e ∷ es) h.apart) (length es) (all_counted from (suc (length es)) (e ∷ es) h.within)

-- ---- of blocks, and of a chunk

none_in_parts : (n from : ℕ) (bs : List (List Numbered)) → AreParts from bs → n < from → starts n (in_blocks bs) ≡ 0
none_in_parts n from [] h low = refl
none_in_parts n from (b ∷ bs) h low =
    sum_by-append (has n) b (in_blocks bs) ∙ omega (arith, none_outside n from (length b) b h.0.within low, none_in_parts n (from + length b) bs h.1 (omega arith))

pub some_in_part : (from : ℕ) (b : List Numbered) → IsPart from b → 0 < length b
some_in_part from [] h = absurd (h.some refl)
some_in_part from (e ∷ es) h = omega arith

pub begins_once : (c : ChunkContents) → Covers c → 0 < count_in c → starts_in c ≡ 1
begins_once c covers some = of_blocks c.blocks covers.parts (c.first + length (in_blocks c.blocks)) refl covers.head some where
  of_blocks : (bs : List (List Numbered)) → AreParts c.first bs → (at : ℕ) → at ≡ c.first + length (in_blocks bs) → AreNumbered at c.head → 0 < length c.head + length (in_blocks bs) → starts c.first c.head + starts c.first (in_blocks bs) ≡ 1
  of_blocks [] parts at is head any = of_head c.head head any where
    of_head : (es : List Numbered) → AreNumbered at es → 0 < length es + 0 → starts c.first es + 0 ≡ 1
    of_head [] numbered any = absurd (omega arith)
    of_head (e ∷ es) (same, short, rest) any = grind (arith, nat_tests, is, same, more c.first e es, none_below c.first (at + 1) es rest (omega (arith, is)))
  of_blocks (b ∷ bs) parts at is head any =
      let some = some_in_part c.first b parts.0 in
      omega (arith, sum_by-append (has c.first) b (in_blocks bs), part_once c.first b parts.0, none_in_parts c.first (c.first + length b) bs parts.1 (omega (arith, some)), none_below c.first at c.head head (omega (arith, is, some, length-append b (in_blocks bs))))
