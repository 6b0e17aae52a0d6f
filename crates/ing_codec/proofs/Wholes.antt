-- How many entries a whole chunk has, and their size.
use Rattle.std.proofs.Common.{◌≡◌, ◌≢◌, ℕ, ◌+◌, ◌*◌, ◌<◌, ◌≤◌, ◌^◌, Bool, true, false, cond, nat_eq, None, Some, List, [], ◌∷◌, length, refl, ap, arith, length-append}
use Rattle.std.specs.List.{AllByRecursion}
use Rattle.std.specs.Prelude.{IsSome}
use Rattle.std.proofs.lemmas.Bool.Decides.{nat_tests}
use Rattle.std.proofs.lemmas.List.Sums.{sum_by-append, sum_by-cons}
use Rattle.ing_rows.specs.Rows.{size_of}
use Rattle.ing_chunk.specs.declared.numbered.Numbered.{Numbered}
use Rattle.ing_chunk.specs.Parts.{IsWithin, AreParts}
use Rattle.ing_chunk.specs.Chunks.{ChunkContents, in_blocks, count_in, size_of_entries, size_of_chunk, span_of, IsWhole}
use Rattle.ing_codec.proofs.Writes.{blocks_few}

-- the head is closed
count_is : (c : ChunkContents) → IsWhole c → count_in c ≡ length (in_blocks c.blocks)
count_is c h = omega (arith, ap length h.closed)

some_blocks : (bs : List (List Numbered)) → bs ≢ [] → 0 < length bs
some_blocks [] h = absurd (h refl)
some_blocks (b ∷ bs) h = omega arith

-- a whole chunk has an entry
pub some_entries : (c : ChunkContents) → IsWhole c → 0 < count_in c
some_entries c h = omega (arith, count_is c h, some_blocks c.blocks h.some, blocks_few c.first c.blocks h.parts)

-- ---- sizes

enough : (es : List Numbered) → length es * 16 ≤ size_of_entries es
enough [] = omega arith
enough (e ∷ es) = omega (arith, sum_by-cons (λ (x : Numbered). size_of x.entry) e es, enough es)

block_size : (from count : ℕ) (es : List Numbered) → AllByRecursion (IsWithin from count) es → size_of_entries es ≤ length es * 262160
block_size from count [] h = omega arith
block_size from count (e ∷ es) h = omega (arith, sum_by-cons (λ (x : Numbered). size_of x.entry) e es, h.0.line, block_size from count es h.1)

blocks_size : (from : ℕ) (bs : List (List Numbered)) → AreParts from bs → size_of_entries (in_blocks bs) ≤ length (in_blocks bs) * 262160
blocks_size from [] h = omega arith
blocks_size from (b ∷ bs) h =
    omega (arith, sum_by-append (λ (x : Numbered). size_of x.entry) b (in_blocks bs), length-append b (in_blocks bs), block_size from (length b) b h.0.within, blocks_size (from + length b) bs h.1)

pub size_whole : (c : ChunkContents) → IsWhole c → (count_in c * 16 ≤ size_of_chunk c) × (size_of_chunk c < 2 ^ 64)
size_whole c h =
    let head : size_of_entries c.head ≡ 0 = ap size_of_entries h.closed in
    (omega (arith, count_is c h, head, enough (in_blocks c.blocks)), omega (arith, count_is c h, head, h.few, blocks_size c.first c.blocks h.parts))

-- ---- stamps

some_of : {A : Type 0} (b : Bool) (x : A) → b ≡ false → IsSome (cond b None (Some x))
some_of true x h = absurd (cc)
some_of false x h = refl

not_zero : (n : ℕ) → 0 < n → nat_eq n 0 ≡ false
not_zero n h = grind (arith, nat_tests)

-- a whole chunk has a span
pub has_span : (c : ChunkContents) → IsWhole c → IsSome (span_of c)
has_span c h = some_of (nat_eq (count_in c) 0) _ (not_zero (count_in c) (some_entries c h))
