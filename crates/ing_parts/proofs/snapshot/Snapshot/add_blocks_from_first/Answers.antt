use Rattle.std.proofs.Common.{◌+◌, take, ap, ◌∙◌}
use Rattle.ing_chunk.specs.Chunks.{in_blocks}
use Rattle.ing_parts.proofs.OfferLaws.{in_blocks_more, up_to}
use Rattle.ing_parts.proofs.RangeLaws.{adds_next}
use Rattle.ing_parts.proofs.snapshot.Snapshot.add_blocks_from_first.Goals as goal

pub loop-block-preserved : goal.loop-block-preserved
loop-block-preserved g c =
    let at = c.loop-block in
    let bs = c.args.blocks.now in
    let b = c.block-item.result in
    adds_next c.args.name.now (in_blocks (take at.block-index bs)) b (in_blocks (take (at.block-index + 1) bs)) c.args.self.now at.self c.add_block.new.self
    (ap in_blocks (up_to bs at.block-index b c.loop-block-test.true c.block-item.is) ∙ in_blocks_more (take at.block-index bs) b) at.invariant c.in_ok-add_block.ensures
