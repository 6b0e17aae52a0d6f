-- Which numbers the entries of blocks have: each from the first on, as many as they are, and each once.
use Rattle.std.proofs.Common.{◌≡◌, ℕ, zero, suc, ◌+◌, ◌-◌, ◌≤◌, ◌<◌, Bool, true, false, cond, ◌&&◌, ◌||◌, nat_eq, nat_le, nat_lt, List, [], ◌∷◌, ◌++◌, filter, length, length-append, refl, sym, ap, subst, ◌∙◌, arith}
use Rattle.std.specs.List.{AllByRecursion, list_any}
use Rattle.std.proofs.lemmas.Bool.{eqb-true, ltb-true}
use Rattle.std.proofs.lemmas.Bool.Decides.{nat_tests}
use Rattle.std.proofs.lemmas.List.Elements.{filter-append}
use Rattle.ing_chunk.specs.declared.numbered.Numbered.{Numbered}
use Rattle.ing_chunk.specs.Chunks.{in_blocks}
use Rattle.ing_chunk.specs.Parts.{AreApart, AreParts, IsPart, IsWithin}
use Rattle.ing_codec.specs.ChunkObjects.{ChunkObject, IsObject}
use Rattle.ing_parts.specs.Listings.{IsLike, IsSpelt, Listed}
use Rattle.ing_query.specs.Fetched.{HaveSameNumbers}

-- how many of them have a number
abbrev occurs : ℕ → List Numbered → ℕ
occurs k es = length (filter (λ e. nat_eq e.number k) es)

one_more : (b : Bool) (e : Numbered) (es : List Numbered) → length (cond b (e ∷ es) es) ≡ cond b 1 0 + length es
one_more true e es = omega arith
one_more false e es = omega arith

none_there : (k : ℕ) (es : List Numbered) → list_any (λ e. nat_eq e.number k) es ≡ false → occurs k es ≡ 0
none_there k [] h = refl
none_there k (e ∷ es) h = step (nat_eq e.number k) (none_there k es) h where
  step : (b : Bool) → (list_any (λ e. nat_eq e.number k) es ≡ false → occurs k es ≡ 0) → (b || list_any (λ e. nat_eq e.number k) es) ≡ false → length (cond b (e ∷ filter (λ e. nat_eq e.number k) es) (filter (λ e. nat_eq e.number k) es)) ≡ 0
  step true rest h = absurd (cc)
  step false rest h = rest h

at_most_once : (k : ℕ) (es : List Numbered) → AreApart es → occurs k es ≤ 1
at_most_once k [] h = omega arith
at_most_once k (e ∷ es) h = step (nat_eq e.number k) refl (at_most_once k es h.1) where
  step : (b : Bool) → nat_eq e.number k ≡ b → occurs k es ≤ 1 → length (cond b (e ∷ filter (λ e. nat_eq e.number k) es) (filter (λ e. nat_eq e.number k) es)) ≤ 1
  step true is rest = let none : occurs k es ≡ 0 = none_there k es (subst (λ n. list_any (λ e. nat_eq e.number n) es ≡ false) (eqb-true e.number k is) h.0) in omega (arith, none)
  step false is rest = rest

none_outside : (from n k : ℕ) (es : List Numbered) → AllByRecursion (IsWithin from n) es → ((m : ℕ) → from ≤ m → m < from + n → m ≡ k → ⊥) → occurs k es ≡ 0
none_outside from n k [] h other = refl
none_outside from n k (e ∷ es) h other = step (nat_eq e.number k) refl (none_outside from n k es h.1 other) where
  step : (b : Bool) → nat_eq e.number k ≡ b → occurs k es ≡ 0 → length (cond b (e ∷ filter (λ e. nat_eq e.number k) es) (filter (λ e. nat_eq e.number k) es)) ≡ 0
  step true is rest = absurd (other e.number h.0.low h.0.high (eqb-true e.number k is))
  step false is rest = rest

-- ---- so many numbers from one on

abbrev total : ℕ → ℕ → List Numbered → ℕ
total from zero es = 0
total from (suc n) es = occurs (from + n) es + total from n es

-- what one entry adds
abbrev is_from : ℕ → ℕ → Numbered → Bool
is_from from n e = nat_le from e.number && nat_lt e.number (from + n)

total_more : (from n : ℕ) (e : Numbered) (es : List Numbered) → total from n (e ∷ es) ≡ cond (is_from from n e) 1 0 + total from n es
total_more from zero e es = none from e.number where
  none : (from m : ℕ) → 0 ≡ cond (nat_le from m && nat_lt m (from + 0)) 1 0 + 0
  none from m = grind (arith, nat_tests)
total_more from (suc n) e es =
    step from n e.number (occurs (from + n) (e ∷ es)) (occurs (from + n) es) (total from n (e ∷ es)) (total from n es)
    (one_more (nat_eq e.number (from + n)) e (filter (λ e. nat_eq e.number (from + n)) es)) (total_more from n e es) where
      step : (from n m now was more rest : ℕ) → now ≡ cond (nat_eq m (from + n)) 1 0 + was → more ≡ cond (nat_le from m && nat_lt m (from + n)) 1 0 + rest
          → now + more ≡ cond (nat_le from m && nat_lt m (from + suc n)) 1 0 + (was + rest)
      step from n m now was more rest h k = grind (arith, nat_tests)

total_none : (from n : ℕ) → total from n [] ≡ 0
total_none from zero = refl
total_none from (suc n) = let rest = total_none from n in omega (arith, rest)

-- entries of these numbers alone
all_counted : (from n : ℕ) (es : List Numbered) → AllByRecursion (IsWithin from n) es → total from n es ≡ length es
all_counted from n [] h = total_none from n
all_counted from n (e ∷ es) h = step from n e.number (total from n (e ∷ es)) (total from n es) (length es) (total_more from n e es) h.0.low h.0.high (all_counted from n es h.1) where
  step : (from n m now was count : ℕ) → now ≡ cond (nat_le from m && nat_lt m (from + n)) 1 0 + was → from ≤ m → m < from + n → was ≡ count → now ≡ suc count
  step from n m now was count h low high rest = grind (arith, nat_tests)

module _ (from : ℕ) (es : List Numbered) (few : (k : ℕ) → occurs k es ≤ 1) where
  total_few : (n : ℕ) → total from n es ≤ n
  total_few zero = omega arith
  total_few (suc n) = let top = few (from + n) in let rest = total_few n in omega (arith, top, rest)

  -- where they are as many as the numbers, each number is there
  each_once : (n : ℕ) → total from n es ≡ n → (i : ℕ) → i < n → occurs (from + i) es ≡ 1
  each_once zero all i within = absurd (omega arith)
  each_once (suc n) all i within =
      let top = few (from + n) in
      let rest = total_few n in
      step (nat_lt i n) refl (each_once n (omega (arith, all, top, rest)) i) (omega (arith, all, top, rest)) where
        step : (b : Bool) → nat_lt i n ≡ b → (i < n → occurs (from + i) es ≡ 1) → occurs (from + n) es ≡ 1 → occurs (from + i) es ≡ 1
        step true is before last = before (ltb-true i n is)
        step false is before last = let at : i ≡ n = grind (arith, nat_tests) in subst (λ j. occurs (from + j) es ≡ 1) (sym at) last

-- ---- of a block, and of blocks

-- whether a number is one of so many from one on
abbrev is_of : ℕ → ℕ → ℕ → Bool
is_of from n k = nat_le from k && nat_lt k (from + n)

part_numbers : (from : ℕ) (b : List Numbered) → IsPart from b → (k : ℕ) → occurs k b ≡ cond (is_of from (length b) k) 1 0
part_numbers from b h k = step (is_of from (length b) k) refl where
  step : (t : Bool) → is_of from (length b) k ≡ t → occurs k b ≡ cond t 1 0
  step true is =
      let within : (from ≤ k) × (k < from + length b) = there from (length b) k is in
      let at : from + (k - from) ≡ k = omega (arith, within.0) in
      let all : total from (length b) b ≡ length b = all_counted from (length b) b h.within in
      subst (λ m. occurs m b ≡ 1) at (each_once from b (λ m. at_most_once m b h.apart) (length b) all (k - from) (omega (arith, within.0, within.1))) where
        there : (from n k : ℕ) → (nat_le from k && nat_lt k (from + n)) ≡ true → (from ≤ k) × (k < from + n)
        there from n k is = (grind (arith, nat_tests), grind (arith, nat_tests))
  step false is = none_outside from (length b) k b h.within (λ m low high same. apart from (length b) m k low high same is) where
    apart : (from n m k : ℕ) → from ≤ m → m < from + n → m ≡ k → (nat_le from k && nat_lt k (from + n)) ≡ false → ⊥
    apart from n m k low high same is = grind (arith, nat_tests)

blocks_numbers : (from : ℕ) (bs : List (List Numbered)) → AreParts from bs → (k : ℕ) → occurs k (in_blocks bs) ≡ cond (is_of from (length (in_blocks bs)) k) 1 0
blocks_numbers from [] h k = sym (none from k) where
  none : (from k : ℕ) → cond {A = ℕ} (nat_le from k && nat_lt k (from + 0)) 1 0 ≡ 0
  none from k = grind (arith, nat_tests)
blocks_numbers from (b ∷ bs) h k =
    let parts : length (filter (λ e. nat_eq e.number k) (b ++ in_blocks bs)) ≡ occurs k b + occurs k (in_blocks bs) =
    ap length (filter-append (λ e. nat_eq e.number k) b (in_blocks bs)) ∙ length-append (filter (λ e. nat_eq e.number k) b) (filter (λ e. nat_eq e.number k) (in_blocks bs)) in
    step from (length b) (length (in_blocks bs)) k (length (b ++ in_blocks bs)) (occurs k b) (occurs k (in_blocks bs)) (occurs k (b ++ in_blocks bs))
    (length-append b (in_blocks bs)) parts (part_numbers from b h.0 k) (blocks_numbers (from + length b) bs h.1 k) where
      step : (from n m k all one rest both : ℕ) → all ≡ n + m → both ≡ one + rest → one ≡ cond (nat_le from k && nat_lt k (from + n)) 1 0
          → rest ≡ cond (nat_le (from + n) k && nat_lt k (from + n + m)) 1 0 → both ≡ cond (nat_le from k && nat_lt k (from + all)) 1 0
      step from n m k all one rest both h i j l = grind (arith, nat_tests)

-- a chunk that is like what is listed has its numbers
pub like_numbers : (listed : Listed) (o : ChunkObject) → IsSpelt listed → IsObject o → IsLike listed o → HaveSameNumbers (in_blocks o.blocks) (in_blocks listed.blocks)
like_numbers listed o spelt is like k =
    let here : occurs k (in_blocks o.blocks) ≡ cond (is_of o.first (length (in_blocks o.blocks)) k) 1 0 = blocks_numbers o.first o.blocks is.numbered.parts k in
    let there : occurs k (in_blocks spelt.object.blocks) ≡ cond (is_of spelt.object.first (length (in_blocks spelt.object.blocks)) k) 1 0 = blocks_numbers spelt.object.first spelt.object.blocks spelt.is.numbered.parts k in
    let counts : length (in_blocks o.blocks) ≡ length (in_blocks spelt.object.blocks) = like.count ∙ ap (λ bs. length (in_blocks bs)) spelt.blocks in
    let firsts : o.first ≡ spelt.object.first = like.first ∙ spelt.first in
    here ∙ (λ i. cond (is_of (firsts i) (counts i) k) 1 0) ∙ sym there ∙ ap (λ bs. occurs k (in_blocks bs)) (sym spelt.blocks)
