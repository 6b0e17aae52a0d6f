use Rattle.std.proofs.Common.{List, ◌+◌, take, ap, map, subst, ◌∙◌}
use Rattle.ing_chunk.specs.declared.numbered.Numbered.{Numbered}
use Rattle.ing_chunk.specs.Chunks.{in_blocks}
use Rattle.ing_parts.specs.Parts.{AddsParts, found_of}
use Rattle.ing_parts.proofs.OfferLaws.{in_blocks_more, up_to}
use Rattle.ing_parts.proofs.PartLaws.{parts_next}
use Rattle.ing_parts.proofs.listing.list_blocks.Goals as goal

pub loop-block-preserved : goal.loop-block-preserved
loop-block-preserved g c =
    let at = c.loop-block in
    let bs = c.args.blocks.now in
    let b = c.block-item.result in
    let name = c.args.name.now in
    let added = subst (λ (l : List Numbered). AddsParts (map (found_of name) l) at.parts.items c.add_part.new.parts.items) c.in_ok-same.ensures c.in_ok-add_part.ensures in
    parts_next name (in_blocks (take at.block-index bs)) b (in_blocks (take (at.block-index + 1) bs)) c.args.parts.now.items at.parts.items c.add_part.new.parts.items
    (ap in_blocks (up_to bs at.block-index b c.loop-block-test.true c.block-item.is) ∙ in_blocks_more (take at.block-index bs) b) at.invariant added
