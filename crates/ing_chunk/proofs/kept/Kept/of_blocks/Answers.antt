use Rattle.std.proofs.Common.{◌+◌, ap, length, take, sym, subst, arith, length-append}
use Rattle.ing_chunk.specs.Chunks.{in_blocks}
use Rattle.ing_chunk.specs.Kept.{IsKeptOf}
use Rattle.ing_chunk.proofs.Restored.{blocks_so_far, no_more}
use Rattle.ing_chunk.proofs.kept.Kept.of_blocks.Goals as goal

pub and-kept-requires-clause-count : goal.and-kept-requires-clause-count
and-kept-requires-clause-count c =
    let bs = c.args.blocks.now in
    let i = c.loop-block.block-index in
    let b = c.block-item.result in
    omega (arith, c.loop-block.invariant.count, c.of_all.ensures.count, ap length c.entries.ensures.value, ap length (blocks_so_far bs i b c.loop-block-test.true c.block-item.is), length-append (in_blocks (take i bs)) b, no_more bs (i + 1), c.requires)

pub loop-block-preserved : goal.loop-block-preserved
loop-block-preserved c =
    let bs = c.args.blocks.now in
    let i = c.loop-block.block-index in
    subst (IsKeptOf c.and-kept.result) (sym (blocks_so_far bs i c.block-item.result c.loop-block-test.true c.block-item.is))
    (c.and-kept.ensures (in_blocks (take i bs)) c.block-item.result c.loop-block.invariant (subst (IsKeptOf c.of_all.result) c.entries.ensures.value c.of_all.ensures))
