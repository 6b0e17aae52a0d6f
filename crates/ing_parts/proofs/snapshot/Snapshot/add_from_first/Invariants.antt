use Rattle.std.proofs.Common.{map, take}
use Rattle.ing_chunk.specs.Chunks.{entries_of_all}
use Rattle.ing_parts.specs.Parts.{Adds, found_of}
use Rattle.ing_parts.proofs.snapshot.Snapshot.add_from_first.Given as goal

-- those of the chunks so far are added
abbrev pub invariant-loop-chunk : goal.invariant-loop-chunk
invariant-loop-chunk g l = Adds (map (found_of l.name) (entries_of_all (take l.chunk-index l.chunks))) l.fn.self l.self
