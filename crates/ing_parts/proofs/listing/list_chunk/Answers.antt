use Rattle.std.proofs.Common.{refl, map, subst}
use Rattle.ing_chunk.specs.Chunks.{entries_of, in_blocks}
use Rattle.ing_parts.specs.Parts.{AddsParts, found_of}
use Rattle.ing_parts.proofs.PartLaws.{parts_next}
use Rattle.ing_parts.proofs.listing.list_chunk.Goals as goal

pub returns : goal.returns
returns g c =
    let name = c.args.name.now in
    let chunk = c.args.chunk.now in
    let old = c.args.parts.now.items in
    let mid = c.list_blocks.new.parts.items in
    let new = c.list_head.new.parts.items in
    let blocks = subst (λ l. AddsParts (map (found_of name) (in_blocks l)) old mid) c.blocks-2.ensures c.in_ok-list_blocks.ensures in
    let head = subst (λ l. AddsParts (map (found_of name) l) mid new) c.head.ensures c.in_ok-list_head.ensures in
    parts_next name (in_blocks chunk.blocks) chunk.head (entries_of chunk) old mid new refl blocks head
