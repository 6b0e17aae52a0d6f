use Rattle.std.proofs.Common.{take}
use Rattle.ing_chunk.specs.Chunks.{in_blocks}
use Rattle.ing_relist.specs.Counts.{AddsTo, IsSmall}
use Rattle.ing_relist.proofs.counted.counted_in.Given as goal

-- the entries of the blocks before are counted
abbrev pub invariant-loop-block : goal.invariant-loop-block
invariant-loop-block l = record {
  adds : AddsTo (in_blocks (take l.block-index l.blocks)) l.initial.sum l.sum;
  small : IsSmall l.sum;
}
