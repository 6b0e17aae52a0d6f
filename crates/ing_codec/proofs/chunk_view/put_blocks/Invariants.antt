use Rattle.std.proofs.Common.{◌≡◌, ◌++◌, take}
use Rattle.std.specs.List.{flat_map, AllByRecursion}
use Rattle.ing_codec.specs.Versions.{written_version}
use Rattle.ing_codec.specs.ChunkObjects.{block_text, IsBlock}
use Rattle.ing_codec.proofs.chunk_view.put_blocks.Given as goal

abbrev pub invariant-loop-block : goal.invariant-loop-block
invariant-loop-block l = record {
  text : l.out.items ≡ l.fn.out.items ++ flat_map (block_text written_version l.first) (take l.block-index l.blocks);
  blocks : AllByRecursion IsBlock (take l.block-index l.blocks);
}
