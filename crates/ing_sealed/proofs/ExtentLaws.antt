-- The extent of a whole chunk is that of its blocks.
use Rattle.std.proofs.Common.{◌≡◌, ℕ, ◌+◌, ◌-◌, ◌^◌, ◌<◌, ◌≤◌, min, max, false, cond, List, [], ◌∷◌, length, sym, ap, ◌∙◌, arith, nat_eq, Some, None}
use Rattle.std.proofs.lemmas.Bool.Decides.{nat_tests}
use Rattle.ing_chunk.specs.declared.numbered.Numbered.{Numbered}
use Rattle.ing_chunk.specs.Chunks.{ChunkContents, IsWhole, count_in, in_blocks, least_of, greatest_of, size_of_entries, size_of_chunk}
use Rattle.ing_codec.specs.declared.index_row.Extent.{Extent}
use Rattle.ing_codec.specs.RowObjects.{IsExtentOf}
use Rattle.ing_parts.specs.Listings.{extent_of}
use Rattle.ing_sealed.proofs.JoinLaws.{some_block}

least_small : (es : List Numbered) → least_of es ≤ 2 ^ 63 - 1
least_small [] = omega arith
least_small (e ∷ es) = let rest = least_small es in omega (arith, rest)

not_none : (n : ℕ) → 0 < n → nat_eq n 0 ≡ false
not_none n some = grind (arith, nat_tests)

pub extent_is : (c : ChunkContents) (x : Extent) → IsWhole c → IsExtentOf c x → x ≡ extent_of c.first c.blocks
extent_is c x whole h =
    let es = in_blocks c.blocks in
    let some = some_block c.first c.blocks whole.some whole.parts in
    let counted : count_in c ≡ length es = ap (λ l. length l + length es) whole.closed ∙ omega arith in
    let sized : size_of_chunk c ≡ size_of_entries es = ap (λ l. size_of_entries l + size_of_entries es) whole.closed ∙ omega arith in
    let test = not_none (count_in c) (omega (arith, some, counted)) in
    let small = least_small es in
    let least : min (least_of c.head) (least_of es) ≡ least_of es = ap (λ l. min (least_of l) (least_of es)) whole.closed ∙ omega (arith, small) in
    let greatest : max (greatest_of c.head) (greatest_of es) ≡ greatest_of es = ap (λ l. max (greatest_of l) (greatest_of es)) whole.closed ∙ omega arith in
    let span = sym h.span ∙ ap (λ b. cond b None (Some (min (least_of c.head) (least_of es), max (greatest_of c.head) (greatest_of es)))) test in
    let ends : ◌≡◌ {A = ℕ × ℕ} (x.least, x.greatest) (min (least_of c.head) (least_of es), max (greatest_of c.head) (greatest_of es)) = cc in
    λ i. record {
      first = h.first i;
      count = (h.count ∙ counted) i;
      size = (h.size ∙ sized) i;
      least = (ap (λ p. p.0) ends ∙ least) i;
      greatest = (ap (λ p. p.1) ends ∙ greatest) i;
    }
