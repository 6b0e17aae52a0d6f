use Rattle.ing_codec.specs.Versions.{written_version}
use Rattle.ing_codec.specs.ChunkReading.{chunk_object}
use Rattle.ing_codec.proofs.Writes.{are_writable, blocks_more, blocks_through, object_of}
use Rattle.ing_codec.proofs.chunk_view.encode_chunk.Goals as goal

pub put_block-requires : goal.put_block-requires
put_block-requires c =
    let inside = c.chunk.inside in
    rw c.block-item.is (are_writable (chunk_object inside.tenant.now inside.name.now inside.first inside.blocks.now) c.chunk.invariant.numbered c.loop-block.block-index _ c.loop-block-test.true)

pub loop-block-preserved : goal.loop-block-preserved
loop-block-preserved c =
    let inside = c.chunk.inside in
    let p = chunk_object inside.tenant.now inside.name.now inside.first inside.blocks.now in
    record {
      text = blocks_more written_version c.args.chunk.now p c.loop-block.block-index c.block-item.result c.loop-block.out.items c.put_block.new.out.items c.chunk.view_is c.loop-block-test.true c.block-item.is c.loop-block.invariant.text c.in_ok-put_block.ensures.text;
      blocks = blocks_through c.args.chunk.now p c.loop-block.block-index c.block-item.result c.chunk.view_is c.loop-block-test.true c.block-item.is c.loop-block.invariant.blocks c.in_ok-put_block.ensures.block;
    }

pub returns-clause-object : goal.returns-clause-object
returns-clause-object c =
    let inside = c.chunk.inside in
    object_of c.args.chunk.now (chunk_object inside.tenant.now inside.name.now inside.first inside.blocks.now) c.loop-block.block-index c.chunk.view_is c.chunk.invariant c.loop-block-test.false c.loop-block.invariant.blocks
