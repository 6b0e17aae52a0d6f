use Rattle.std.proofs.Common.{◌≡◌, drop}
use Rattle.std.specs.List.{list_any}
use Rattle.ing_chunk.specs.Chunks.{in_blocks}
use Rattle.ing_relist.specs.Ends.{is_other}
use Rattle.ing_relist.proofs.ends.has_other.Given as goal

-- the blocks before have none
abbrev pub invariant-loop-block : goal.invariant-loop-block
invariant-loop-block l = list_any (is_other l.end l.entry) (in_blocks (drop l.block-index l.blocks)) ≡ list_any (is_other l.end l.entry) (in_blocks l.blocks)
