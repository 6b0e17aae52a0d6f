-- The sealed chunks of a stream, each where it stands: what contracts see of them, and their part of a shard's state.
-- What names no section of the Loki documentation is own.
use Rattle.std.specs.Prelude.{◌≡◌, ℕ, ◌<◌, true, false, List, [], ◌∷◌, ◌++◌, All, map, length, is_some, if◌then◌else◌, Option, None}
use Rattle.ing_rows.specs.declared.place.Place.{Place}
use Rattle.ing_rows.specs.declared.place.Place.TheVariants.{Block, Flight, Stored}
use Rattle.ing_rows.specs.declared.place.SealReason.{SealReason}
use Rattle.ing_rows.specs.Rows.{StreamKey, Row, Mark, State, empty_state, is_head, is_block, is_flight, is_stored}
use Rattle.ing_rows.specs.Turns.{beside}
use Rattle.ing_chunk.specs.declared.numbered.Numbered.{Numbered}
use Rattle.ing_chunk.specs.Chunks.{ChunkContents, block_rows, in_blocks}
use Rattle.ing_parts.specs.declared.found.Found.{Found}
use Rattle.ing_parts.specs.Parts.{found_of}
use Rattle.ing_parts.specs.Listings.{Listed}

-- A sealed chunk and where it stands: the number of its first entry, the entries of its blocks, its last update and why it
-- was sealed. Of a stored chunk the last two are not kept.
pub record Slot : Type 0 where
  pub first : ℕ
  pub blocks : List (List Numbered)
  pub last_update : ℕ
  pub reason : Option SealReason
  pub place : Place

-- a sealed chunk at a place
abbrev pub slot_at : Place → ChunkContents → Slot
slot_at place c =
    record { first = c.first; blocks = c.blocks; last_update = c.last_update; reason = c.reason; place = place }

-- the same chunk elsewhere
abbrev pub put_at : Place → Slot → Slot
put_at place x = record x { place = place }

-- the same chunk, stored: only its numbers and entries are known of it
abbrev pub stored_at : List ℕ → Slot → Slot
stored_at key x = record { first = x.first; blocks = x.blocks; last_update = 0; reason = None; place = Stored key }

-- a chunk that is listed as stored
abbrev pub slot_listed : Listed → Slot
slot_listed l = record { first = l.first; blocks = l.blocks; last_update = 0; reason = None; place = Stored l.key }

-- ---- their part of the state of a shard

abbrev pub at_place : Place → Row → Row
at_place place r = record r { place = place }

abbrev pub slot_rows : StreamKey → Slot → List Row
slot_rows s x = map (at_place x.place) (block_rows s x.first 0 x.blocks)

-- a stored chunk has no mark
abbrev pub slot_marks : StreamKey → Slot → List Mark
slot_marks s x =
    if is_stored x.place then []
    else record { stream = s; chunk = x.first; last_update = x.last_update; reason = x.reason } ∷ []

abbrev pub slot_state : StreamKey → Slot → State
slot_state s x = record { rows = slot_rows s x; marks = slot_marks s x }

abbrev pub slots_state : StreamKey → List Slot → State
slots_state s [] = empty_state
slots_state s (x ∷ xs) = beside (slot_state s x) (slots_state s xs)

-- ---- what holds of them

-- how many entries
abbrev pub count_at : Slot → ℕ
count_at x = length (in_blocks x.blocks)

-- a sealed chunk that has an entry, and stands nowhere but in blocks, in flight or in the store
pub record IsSlot (x : Slot) : Type 0 where
  pub some : 0 < count_at x
  pub sealed : is_stored x.place ≡ false → is_some x.reason ≡ true
  pub closed : is_head x.place ≡ false

-- each begins after the ones before it
abbrev pub AreRising : List Slot → Type 0
AreRising [] = Unit {0}
AreRising (x ∷ xs) = All (λ y. x.first < y.first) xs × AreRising xs

-- each begins before this number
abbrev pub AreBelow : ℕ → List Slot → Type 0
AreBelow next xs = All (λ x. x.first < next) xs

-- no chunk is in this flight
abbrev pub NoneInFlight : ℕ → List Slot → Type 0
NoneInFlight f xs = All (λ x. is_flight f x.place ≡ false) xs

-- no two are in the same flight
abbrev pub FlyApart : List Slot → Type 0
FlyApart [] = Unit {0}
FlyApart (x ∷ xs) = ((f : ℕ) → is_flight f x.place ≡ true → NoneInFlight f xs) × FlyApart xs

pub record AreSlots (xs : List Slot) : Type 0 where
  pub each : All IsSlot xs
  pub rising : AreRising xs
  pub apart : FlyApart xs

-- ---- what changes them

-- one of them changes
pub record Changes (f : Slot → Slot) (index : ℕ) (x : Slot) (old new : List Slot) : Type 0 where
  pub front : List Slot
  pub back : List Slot
  pub was : old ≡ front ++ x ∷ back
  pub is : new ≡ front ++ f x ∷ back
  pub at : length front ≡ index

-- the oldest chunk in blocks, of which the place is this, is put in flight
pub record Claimed (f index : ℕ) (chunk : ChunkContents) (old new : List Slot) : Type 0 where
  pub changes : Changes (put_at (Flight f)) index (slot_at Block chunk) old new
  pub oldest : All (λ y. is_block y.place ≡ false) changes.front

-- ---- what a query finds of them

-- the entries of a sealed chunk of the stream of this name
abbrev pub found_at_slot : List ℕ → Slot → List Found
found_at_slot name x = map (found_of name) (in_blocks x.blocks)

-- and of several
abbrev pub found_at_slots : List ℕ → List Slot → List Found
found_at_slots name [] = []
found_at_slots name (x ∷ xs) = found_at_slot name x ++ found_at_slots name xs
