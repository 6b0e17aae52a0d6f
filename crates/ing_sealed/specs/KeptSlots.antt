-- What the sealed chunks of a stream keep beside themselves.
use Rattle.std.specs.Prelude.{◌≡◌, ◌≤◌, Bool, false, not, All, map, filter, length, take}
use Rattle.ing_rows.specs.declared.place.Place.TheVariants as place
use Rattle.ing_rows.specs.Rows.{is_block, is_stored}
use Rattle.ing_chunk.specs.Chunks.{IsWhole}
use Rattle.ing_sealed.specs.declared.sealed_chunks.Held.{Held}
use Rattle.ing_sealed.specs.declared.sealed_chunks.Held.TheVariants.{Waiting, Shared, Flying, Stored}
use Rattle.ing_sealed.specs.declared.sealed_chunks.SealedChunks.TheInside.{Inside}
use Rattle.ing_sealed.specs.Slots.{Slot, slot_at, slot_listed, AreSlots}

-- what contracts see of one
abbrev pub slot_of : {R : Type 0} → Held R → Slot
slot_of (Waiting c) = slot_at place.Block c
slot_of (Shared c) = slot_at place.Block c.value
slot_of (Flying f c) = slot_at (place.Flight f) c.value
slot_of (Stored l) = slot_listed l

-- a chunk that is held in memory is whole
abbrev pub HoldsWhole : {R : Type 0} → Held R → Type 0
HoldsWhole (Waiting c) = IsWhole c
HoldsWhole (Shared c) = IsWhole c.value
HoldsWhole (Flying f c) = IsWhole c.value
HoldsWhole (Stored l) = Unit {0}

-- whether one waits in blocks
abbrev pub waits : {R : Type 0} → Held R → Bool
waits h = is_block (slot_of h).place

-- what is kept equals what computing it afresh gives
pub record AreKept {R : Type 0} (c : Inside R) : Type 0 where
  pub slots : AreSlots (map slot_of c.slots.items)
  pub whole : All HoldsWhole c.slots.items
  pub older : All (λ x. is_block x.place ≡ false) (take c.oldest (map slot_of c.slots.items))
  pub within : c.oldest ≤ length (map slot_of c.slots.items)
  pub waiting : c.waiting ≡ length (filter (λ x. is_block x.place) (map slot_of c.slots.items))
  pub unstored : c.unstored ≡ length (filter (λ x. not (is_stored x.place)) (map slot_of c.slots.items))
