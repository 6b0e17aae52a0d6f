use Rattle.std.proofs.Common.{◌≡◌, ◌++◌, take}
use Rattle.std.specs.List.{flat_map, AllByRecursion}
use Rattle.ing_codec.specs.Versions.{written_version}
use Rattle.ing_codec.specs.ChunkObjects.{head_text, block_text, IsBlock}
use Rattle.ing_codec.proofs.chunk_view.encode_chunk.Given as goal

abbrev pub invariant-loop-block : goal.invariant-loop-block
invariant-loop-block l = record {
  text : l.out.items ≡ head_text written_version l.chunk ++ flat_map (block_text written_version l.chunk.first) (take l.block-index l.chunk.blocks);
  blocks : AllByRecursion IsBlock (take l.block-index l.chunk.blocks);
}
