use Rattle.std.proofs.Common.{[]}
use Rattle.ing_codec.specs.Versions.{written_version}
use Rattle.ing_codec.specs.ChunkObjects.{block_text, IsBlock}
use Rattle.ing_codec.proofs.Writes.{all_writable, written_more, all_through, all_gone}
use Rattle.ing_codec.proofs.chunk_view.put_blocks.Goals as goal

pub put_block-requires : goal.put_block-requires
put_block-requires c =
    rw c.block-item.is (all_writable c.args.first c.args.blocks.now c.requires.parts c.requires.few c.loop-block.block-index _ c.loop-block-test.true)

pub loop-block-preserved : goal.loop-block-preserved
loop-block-preserved c =
    let bs = c.args.blocks.now in
    let i = c.loop-block.block-index in
    let b = c.block-item.result in
    record {
      text = written_more (block_text written_version c.args.first) bs i b c.args.out.now.items [] c.loop-block.out.items c.put_block.new.out.items c.loop-block-test.true c.block-item.is c.loop-block.invariant.text c.in_ok-put_block.ensures.text;
      blocks = all_through IsBlock bs i b c.loop-block-test.true c.block-item.is c.loop-block.invariant.blocks c.in_ok-put_block.ensures.block;
    }

pub returns-clause-blocks : goal.returns-clause-blocks
returns-clause-blocks c = all_gone IsBlock c.args.blocks.now c.loop-block.block-index c.loop-block-test.false c.loop-block.invariant.blocks
