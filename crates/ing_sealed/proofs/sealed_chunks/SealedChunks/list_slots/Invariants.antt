use Rattle.std.proofs.Common.{map, take}
use Rattle.ing_parts.specs.Parts.{AddsParts}
use Rattle.ing_sealed.specs.KeptSlots.{slot_of}
use Rattle.ing_sealed.specs.Slots.{found_at_slots}
use Rattle.ing_sealed.proofs.sealed_chunks.SealedChunks.list_slots.Given as goal

-- those so far are added
abbrev pub invariant-loop-held : goal.invariant-loop-held
invariant-loop-held g l = AddsParts (found_at_slots l.name (map slot_of (take l.held-index l.held-items))) l.fn.parts.items l.parts.items
