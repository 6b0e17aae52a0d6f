-- A world as plain data: what its shard has, its tickets, and what was answered accepted.
-- What names no section of the Loki documentation is own.
use Rattle.std.specs.Prelude.{◌≡◌, ◌≢◌, ℕ, Bool, true, false, ◌&&◌, List, [], slice_get, Option, Some, None}
use Rattle.ing_rows.specs.Rows.{StreamKey, State, empty_state}
use Rattle.ing_rows.specs.Kept.{Numbered}
use Rattle.ing_tally.specs.Books.{BookName}
use Rattle.ing_shard.specs.Flights.{Flown}
use Rattle.ing_world.specs.declared.event.Object.{Object}
use Rattle.ing_world.specs.declared.event.Object.TheVariants.{Chunk, Row}

-- an open ticket: the chunk that it is for, whose share it has, and of which of its objects it has a receipt
pub record OpenState : Type 0 where
  pub flown : Flown
  pub book : BookName
  pub has_chunk : Bool
  pub has_row : Bool

-- without receipts
abbrev pub opened : Flown → BookName → OpenState
opened f book = record { flown = f; book = book; has_chunk = false; has_row = false }

-- with one receipt more
abbrev pub with_object : Object → OpenState → OpenState
with_object Chunk o = record o { has_chunk = true }
with_object Row o = record o { has_row = true }

-- the rows and marks, the streams in the order of their numbers, the tickets in the order of their claims, each open or not,
-- and all that was answered accepted, in order
pub record WorldState : Type 0 where
  pub state : State
  pub listed : List StreamKey
  pub tickets : List (Option OpenState)
  pub accepted : List Numbered

abbrev pub empty_world : WorldState
empty_world = record { state = empty_state; listed = []; tickets = []; accepted = [] }

abbrev pub joined : Option (Option OpenState) → Option OpenState
joined None = None
joined (Some o) = o

-- the ticket of this name, where it is open
abbrev pub open_at : List (Option OpenState) → ℕ → Option OpenState
open_at tickets t = joined (slice_get tickets t)

-- it is open, and has both receipts
abbrev pub is_ready : Option OpenState → Bool
is_ready None = false
is_ready (Some o) = o.has_chunk && o.has_row

-- a ticket becomes this, and the others stay
pub record Becomes (t : ℕ) (o : Option OpenState) (old new : List (Option OpenState)) : Type 0 where
  pub at : slice_get new t ≡ Some o
  pub others : (u : ℕ) → u ≢ t → slice_get new u ≡ slice_get old u
