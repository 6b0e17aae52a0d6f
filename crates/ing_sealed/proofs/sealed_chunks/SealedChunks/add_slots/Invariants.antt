use Rattle.std.proofs.Common.{map, take}
use Rattle.ing_parts.specs.Parts.{Adds}
use Rattle.ing_sealed.specs.KeptSlots.{slot_of}
use Rattle.ing_sealed.specs.Slots.{found_at_slots}
use Rattle.ing_sealed.proofs.sealed_chunks.SealedChunks.add_slots.Given as goal

-- those so far are added
abbrev pub invariant-loop-held : goal.invariant-loop-held
invariant-loop-held g l = Adds (found_at_slots l.name (map slot_of (take l.held-index l.held-items))) l.fn.snapshot l.snapshot
