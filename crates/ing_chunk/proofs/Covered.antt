-- The numbers of a chunk's entries, as it grows and as its head is closed.
use Rattle.std.proofs.Common.{◌≡◌, ◌≢◌, ℕ, ◌+◌, ◌*◌, ◌<◌, ◌≤◌, false, cond, List, [], ◌∷◌, ◌++◌, length, nat_eq, refl, sym, ap, subst, ◌∙◌, arith, length-append}
use Rattle.std.specs.Prelude.{IsPermutation}
use Rattle.std.specs.List.{AllByRecursion}
use Rattle.std.proofs.lemmas.Bool.Decides.{nat_tests}
use Rattle.std.proofs.lemmas.List.Elements.{All-from_recursion, recursion_from_All}
use Rattle.std.proofs.lemmas.List.Sorted.{All-permutation, length_permutation, sum_by-IsPermutation}
use Rattle.std.proofs.lemmas.List.Sums.{sum_by-cons}
use Rattle.ing_rows.specs.declared.entry.Entry.{Entry}
use Rattle.ing_rows.specs.Rows.{size_of}
use Rattle.ing_chunk.specs.declared.numbered.Numbered.{Numbered}
use Rattle.ing_chunk.specs.Parts.{IsShort, is_taken, AreApart, IsWithin, IsPart, AreParts, AreNumbered}
use Rattle.ing_chunk.specs.Chunks.{ChunkContents, in_blocks, size_of_entries, size_of_chunk, count_in, starts, Covers, Follow, with_entry, with_block}
use Rattle.ing_chunk.proofs.Sums.{some_reordered}

-- ---- each number once

abbrev pub has : ℕ → Numbered → ℕ
has n e = cond (nat_eq e.number n) 1 0

untaken : (n : ℕ) (es : List Numbered) → starts n es ≡ 0 → is_taken n es ≡ false
untaken n [] h = refl
untaken n (e ∷ es) h =
    let none : nat_eq e.number n ≡ false = grind (arith, nat_tests, h, sum_by-cons (has n) e es) in
    rw none (untaken n es (omega (arith, h, sum_by-cons (has n) e es)))

apart_of : (es : List Numbered) → ((n : ℕ) → starts n es ≤ 1) → AreApart es
apart_of [] h = tt
apart_of (e ∷ es) h = (
  untaken e.number es (grind (arith, nat_tests, h e.number, sum_by-cons (has e.number) e es)),
  apart_of es (λ n. omega (arith, h n, sum_by-cons (has n) e es)),
)

pub none_below : (n from : ℕ) (es : List Numbered) → AreNumbered from es → n < from → starts n es ≡ 0
none_below n from [] h low = refl
none_below n from (e ∷ es) (is, short, rest) low = grind (arith, nat_tests, is, sum_by-cons (has n) e es, none_below n (from + 1) es rest (omega arith))

once : (n from : ℕ) (es : List Numbered) → AreNumbered from es → starts n es ≤ 1
once n from [] h = omega arith
once n from (e ∷ es) (is, short, rest) = grind (arith, nat_tests, is, sum_by-cons (has n) e es, none_below n (from + 1) es rest, once n (from + 1) es rest)

-- ---- a closed head is a part

within_of : (from at count : ℕ) (es : List Numbered) → from ≤ at → at + length es ≤ from + count → AreNumbered at es → AllByRecursion (IsWithin from count) es
within_of from at count [] low high h = tt
within_of from at count (e ∷ es) low high (is, short, rest) =
    (record { low = omega (arith, is); high = omega (arith, is); line = short }, within_of from (at + 1) count es (omega arith) (omega arith) rest)

block_part : (from : ℕ) (head block : List Numbered) → AreNumbered from head → 0 < length head → IsPermutation head block → IsPart from block
block_part from head block h some moved =
    let many : length block ≡ length head = length_permutation head block moved in
    record {
      some = some_reordered head block moved some;
      within = recursion_from_All (IsWithin from (length block)) block (All-permutation (IsWithin from (length block)) head block moved (All-from_recursion (IsWithin from (length block)) head (within_of from from (length block) head (omega arith) (omega (arith, many)) h)));
      apart = apart_of block (λ n. omega (arith, once n from head h, sum_by-IsPermutation (has n) head block moved));
    }

parts_more : (from : ℕ) (bs : List (List Numbered)) (b : List Numbered) → AreParts from bs → IsPart (from + length (in_blocks bs)) b → AreParts from (bs ++ b ∷ [])
parts_more from [] b h p = let same : from + 0 ≡ from = omega arith in (subst (λ n. IsPart n b) same p, tt)
parts_more from (c ∷ bs) b h p =
    let same : from + length (in_blocks (c ∷ bs)) ≡ from + length c + length (in_blocks bs) = omega (arith, length-append c (in_blocks bs)) in
    (h.0, parts_more (from + length c) bs b h.1 (subst (λ n. IsPart n b) same p))

numbered_push : (from : ℕ) (es : List Numbered) (e : Numbered) → AreNumbered from es → e.number ≡ from + length es → IsShort e.entry → AreNumbered from (es ++ e ∷ [])
numbered_push from [] e h is short = (omega (arith, is), short, tt)
numbered_push from (x ∷ es) e (at, line, rest) is short = (at, line, numbered_push (from + 1) es e rest (omega (arith, is)) short)

-- ---- a chunk

-- one more entry
pub covers_more : (e : Entry) (n now : ℕ) (g : ChunkContents) → Covers g → g.first + count_in g ≡ n → IsShort e → Covers (with_entry e n now g)
covers_more e n now g h up_to short = record {
  parts = h.parts;
  head = numbered_push (g.first + length (in_blocks g.blocks)) g.head (record { number = n; entry = e }) h.head (omega (arith, up_to)) short;
}

-- the head closed
pub covers_closed : (block : List Numbered) (g : ChunkContents) → Covers g → 0 < length g.head → IsPermutation g.head block → Covers (with_block block g)
covers_closed block g h some moved = record {
  parts = parts_more g.first g.blocks block h.parts (block_part (g.first + length (in_blocks g.blocks)) g.head block h.head some moved);
  head = tt;
}

pub some_blocks : (bs : List (List Numbered)) (b : List Numbered) → (bs ++ b ∷ []) ≢ []
some_blocks bs b none = let long = length-append bs (b ∷ []) in absurd (omega (arith, long, ap length none))

-- ---- sizes

enough : (es : List Numbered) → length es * 16 ≤ size_of_entries es
enough [] = omega arith
enough (e ∷ es) = omega (arith, sum_by-cons (λ (x : Numbered). size_of x.entry) e es, enough es)

-- an entry counts 16 bytes and more
pub count_small : (c : ChunkContents) → count_in c * 16 ≤ size_of_chunk c
count_small c = omega (arith, enough c.head, enough (in_blocks c.blocks))

-- ---- chunks one after another

pub follow_push : (from mid : ℕ) (cs : List ChunkContents) (d : ChunkContents) → Follow from mid cs → d.first ≡ mid → Follow from (mid + count_in d) (cs ++ d ∷ [])
follow_push from mid [] d h first = (first ∙ sym h, ap (λ n. n + count_in d) h)
follow_push from mid (c ∷ cs) d h first = (h.0, follow_push (from + count_in c) mid cs d h.1 first)
