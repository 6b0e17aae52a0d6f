-- What contracts see of a shard.
use Rattle.std.specs.Prelude.{◌≡◌, ℕ, ◌<◌, ◌^◌, List, [], ◌∷◌, ◌++◌, filter, length, sum_by, if◌then◌else◌, Option, Some, None, slice_get}
use Rattle.ing_labels.specs.Labels.{LabelMap}
use Rattle.ing_labels.specs.Canonical.{canonical_of}
use Rattle.ing_rows.specs.declared.entry.Entry.{Entry}
use Rattle.ing_rows.specs.Rows.{StreamKey, Row, State, IsSame, has_stream, is_in_flight, is_stored}
use Rattle.ing_rows.specs.Placement.{shard_of}
use Rattle.ing_rows.specs.Events.{Reply}
use Rattle.ing_rows.specs.Events as events
use Rattle.ing_limits.specs.Settings.{StoreSettings}
use Rattle.ing_checkpoint.specs.Slots.{Slot}
use Rattle.ing_checkpoint.specs.Contents.{flights_of}
use Rattle.ing_tally.specs.Books.{ShareState}
use Rattle.ing_shard.specs.Books.{BookStates, names_of}
use Rattle.ing_refusals.specs.declared.push_fault.PushFault.{PushFault}
use Rattle.ing_refusals.specs.declared.push_fault.PushFault.TheVariants.{NoMemory, CounterFull, TooManyEntries}

-- its settings, its number, the streams that have been listed, in the order of their numbers, the sealed chunks of each that
-- a claim has taken over, the oldest first, its rows and marks, and its books
pub record Contents : Type 0 where
  pub settings : StoreSettings
  pub number : ℕ
  pub listed : List StreamKey
  pub sealed : List (List Slot)
  pub state : State
  pub books : BookStates

-- the shard's rows and marks are those of the state, in whatever order
abbrev pub Stands : Contents → State → Type 0
Stands contents st = IsSame contents.state st

-- A stream is a shard's own, by its number and how many shards there are: it has its place there, and its canonical name is short
-- enough to be written into a chunk object.
pub record IsOwn (shards number : ℕ) (s : StreamKey) : Type 0 where
  pub placed : shard_of s.tenant s.name shards ≡ number
  pub short : length s.name < 2 ^ 32

-- each of these is
abbrev pub AreOwn : ℕ → ℕ → List StreamKey → Type 0
AreOwn shards number listed = (i : ℕ) (s : StreamKey) → slice_get listed i ≡ Some s → IsOwn shards number s

-- what no call changes: its settings, its number, and which books it has
pub record IsSameShard (old new : Contents) : Type 0 where
  pub settings : new.settings ≡ old.settings
  pub number : new.number ≡ old.number
  pub books : names_of new.books ≡ names_of old.books

-- how many rows are stored
abbrev pub stored_count : List Row → ℕ
stored_count rows = length (filter (λ r. is_stored r.place) rows)

-- how many rows are in flight
abbrev pub flying_count : List Row → ℕ
flying_count rows = length (filter (λ r. is_in_flight r.place) rows)

-- how many chunks are in flight
abbrev pub chunks_flying : List (List Slot) → ℕ
chunks_flying = sum_by (λ slots. length (flights_of slots))

-- The books count the shard's rows: all of them, those in flight and those that are stored; as many shares of the flight's are out
-- as chunks are in flight, and where there is no such chunk, no row is in flight.
pub record BooksCount (contents : Contents) : Type 0 where
  pub accepted : contents.books.accepted.number ≡ length contents.state.rows
  pub flight : contents.books.flight.number ≡ flying_count contents.state.rows
  pub stored : contents.books.stored.number ≡ stored_count contents.state.rows
  pub out : contents.books.flight.out ≡ chunks_flying contents.sealed
  pub landed : chunks_flying contents.sealed ≡ 0 → flying_count contents.state.rows ≡ 0

-- one of two shares is of what a shard with these books accepted, and the other of what it stored
pub record AreSharesOf (books : BookStates) (pushing tally : ShareState) : Type 0 where
  pub accepted : pushing.book ≡ books.accepted.name
  pub stored : tally.book ≡ books.stored.name

-- it is the only shard that there is
pub record IsOnly (contents : Contents) : Type 0 where
  pub one : contents.settings.shards ≡ 1
  pub first : contents.number ≡ 0

-- the stream of a tenant's labels
abbrev pub stream_of : List ℕ → LabelMap → StreamKey
stream_of tenant labels = record { tenant = tenant; name = canonical_of labels }

-- the reply of the model that a fault is; want of memory is none
abbrev pub reply_of : PushFault → Option Reply
reply_of NoMemory = None
reply_of CounterFull = Some events.CounterFull
reply_of TooManyEntries = Some events.TooManyEntries

-- A stream is listed with its first accepted entry, behind those that were listed before.
abbrev pub listed_after : StreamKey → List Entry → List StreamKey → List StreamKey
listed_after s [] listed = listed
listed_after s (e ∷ es) listed = if has_stream s listed then listed else listed ++ s ∷ []
