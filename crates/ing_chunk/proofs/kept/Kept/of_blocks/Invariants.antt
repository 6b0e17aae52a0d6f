use Rattle.std.proofs.Common.{take}
use Rattle.ing_chunk.specs.Chunks.{in_blocks}
use Rattle.ing_chunk.specs.Kept.{IsKeptOf}
use Rattle.ing_chunk.proofs.kept.Kept.of_blocks.Given as goal

-- of the blocks so far
abbrev pub invariant-loop-block : goal.invariant-loop-block
invariant-loop-block l = IsKeptOf l.kept (in_blocks (take l.block-index l.blocks))
