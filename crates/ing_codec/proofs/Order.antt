-- The order of the entries of a block: by stamp, then by number.
use Rattle.std.proofs.Common.{◌≡◌, ◌≢◌, ℕ, ◌-◌, ◌<◌, true, false, ◌&&◌, ◌||◌, List, [], ◌∷◌, ◌++◌, length, get_or, Option, sym, ap, ◌∙◌, arith}
use Rattle.std.specs.Prelude.{◌==◌, nat_lt}
use Rattle.std.specs.Ordering.{is_lt, nat_cmp, ordering_then}
use Rattle.std.proofs.lemmas.Bool.Decides.{nat_tests}
use Rattle.std.proofs.lemmas.Grind.{common_steps}
use Rattle.std.proofs.lemmas.Option.{slice_get-get_or}
use Rattle.std.proofs.lemmas.List.Kept.{IsSortedBy-push}
use Rattle.ing_chunk.specs.declared.numbered.Numbered.{Numbered}
use Rattle.ing_chunk.specs.Chunks.{comes_before, AreInOrder}
use Rattle.ing_codec.specs.ChunkReading.{goes_on, is_above}

as_tests : (s t m n : ℕ) → is_lt (ordering_then (nat_cmp s t) (nat_cmp m n)) ≡ (nat_lt s t || ((s == t) && nat_lt m n))
as_tests s t m n = grind (arith, common_steps)

one_way : (s t m n : ℕ) → (nat_lt s t || ((s == t) && nat_lt m n)) ≡ true → (nat_lt t s || ((t == s) && nat_lt n m)) ≡ false
one_way s t m n h = grind (arith, nat_tests)

or_other_way : (s t m n : ℕ) → m ≢ n → (nat_lt t s || ((t == s) && nat_lt n m)) ≡ false → (nat_lt s t || ((s == t) && nat_lt m n)) ≡ true
or_other_way s t m n ne h = grind (arith, nat_tests)

-- no entry comes before one that comes before it
pub not_back : (a b : Numbered) → comes_before a b ≡ true → comes_before b a ≡ false
not_back a b h = as_tests b.entry.stamp a.entry.stamp b.number a.number ∙ one_way a.entry.stamp b.entry.stamp a.number b.number (sym (as_tests a.entry.stamp b.entry.stamp a.number b.number) ∙ h)

-- of two entries with different numbers one comes before the other
pub one_comes_before : (a b : Numbered) → a.number ≢ b.number → comes_before b a ≡ false → comes_before a b ≡ true
one_comes_before a b ne h = as_tests a.entry.stamp b.entry.stamp a.number b.number ∙ or_other_way a.entry.stamp b.entry.stamp a.number b.number ne (sym (as_tests b.entry.stamp a.entry.stamp b.number a.number) ∙ h)

-- the last of those before
above_last : (before : List Numbered) (e d : Numbered) → 0 < length before → goes_on before e ≡ true → comes_before (get_or before (length before - 1) d) e ≡ true
above_last before e d some h = sym (ap (λ (o : Option Numbered). is_above o e) (slice_get-get_or before (length before - 1) d (omega arith))) ∙ h

pub in_order_more : (before : List Numbered) (e : Numbered) → AreInOrder before → goes_on before e ≡ true → AreInOrder (before ++ e ∷ [])
in_order_more before e up h = IsSortedBy-push comes_before before e up (λ d some. not_back (get_or before (length before - 1) d) e (above_last before e d some h))
