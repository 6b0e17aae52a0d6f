use Rattle.std.proofs.Common.{◌≡◌, ◌++◌, drop, map}
use Rattle.ing_chunk.specs.Chunks.{in_blocks}
use Rattle.ing_parts.specs.Parts.{found_of}
use Rattle.ing_query.proofs.part_reading.copy_all_lent.Given as goal

-- those that are left do the rest
abbrev pub invariant-loop-block : goal.invariant-loop-block
invariant-loop-block l =
    l.found.items ++ map (found_of l.name) (in_blocks (drop l.block-index l.blocks)) ≡ l.initial.found.items ++ map (found_of l.name) (in_blocks l.blocks)
