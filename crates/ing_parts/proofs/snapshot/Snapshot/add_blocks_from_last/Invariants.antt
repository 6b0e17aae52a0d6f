use Rattle.std.proofs.Common.{drop, map}
use Rattle.ing_chunk.specs.Chunks.{in_blocks}
use Rattle.ing_parts.specs.Parts.{Adds, found_of}
use Rattle.ing_parts.proofs.snapshot.Snapshot.add_blocks_from_last.Given as goal

-- those of the blocks from the index on are added
abbrev pub invariant-loop-index : goal.invariant-loop-index
invariant-loop-index g l = Adds (map (found_of l.name) (in_blocks (drop l.index l.blocks))) l.fn.self l.self
