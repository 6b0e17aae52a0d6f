use Rattle.std.proofs.Common.{map, take}
use Rattle.ing_chunk.specs.Chunks.{in_blocks}
use Rattle.ing_parts.specs.Parts.{AddsParts, found_of}
use Rattle.ing_parts.proofs.listing.list_blocks.Given as goal

-- those of the blocks so far are added
abbrev pub invariant-loop-block : goal.invariant-loop-block
invariant-loop-block g l = AddsParts (map (found_of l.name) (in_blocks (take l.block-index l.blocks))) l.initial.parts.items l.parts.items
