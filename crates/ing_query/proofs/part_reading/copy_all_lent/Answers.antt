use Rattle.std.proofs.Common.{◌≡◌, ◌+◌, ◌++◌, drop, ap, map, ◌∙◌}
use Rattle.ing_chunk.specs.Chunks.{in_blocks}
use Rattle.ing_parts.specs.Parts.{found_of}
use Rattle.ing_query.proofs.OfferLaws.{copy_step, left_from}
use Rattle.ing_query.proofs.part_reading.copy_all_lent.Goals as goal

pub loop-block-preserved : goal.loop-block-preserved
loop-block-preserved c =
    let at = c.loop-block in
    let name = c.args.name.now in
    let bs = c.args.blocks.now in
    let item = c.block-item.result in
    let done : c.copy_lent.new.found.items ≡ at.found.items ++ map (found_of name) c.entries.result.now = c.in_ok-copy_lent.ensures in
    copy_step name item (in_blocks (drop (at.block-index + 1) bs)) (in_blocks (drop at.block-index bs)) at.found.items c.copy_lent.new.found.items _
    (ap in_blocks (left_from bs at.block-index item c.loop-block-test.true c.block-item.is))
    (done ∙ ap (λ l. at.found.items ++ map (found_of name) l) c.entries.ensures.value) at.invariant
