use Rattle.std.proofs.Common.{map, take}
use Rattle.ing_chunk.specs.Chunks.{entries_of_all}
use Rattle.ing_parts.specs.Parts.{AddsParts, found_of}
use Rattle.ing_parts.proofs.listing.list_waiting.Given as goal

-- those of the chunks so far are added
abbrev pub invariant-loop-chunk : goal.invariant-loop-chunk
invariant-loop-chunk g l = AddsParts (map (found_of l.name) (entries_of_all (take l.chunk-index l.chunks))) l.initial.parts.items l.parts.items
