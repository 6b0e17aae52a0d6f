use Rattle.std.proofs.Common.{drop, map}
use Rattle.ing_chunk.specs.Chunks.{entries_of_all}
use Rattle.ing_parts.specs.Parts.{Adds, found_of}
use Rattle.ing_parts.proofs.snapshot.Snapshot.add_from_last.Given as goal

-- those of the chunks from the index on are added
abbrev pub invariant-loop-index : goal.invariant-loop-index
invariant-loop-index g l = Adds (map (found_of l.name) (entries_of_all (drop l.index l.chunks))) l.fn.self l.self
