-- The state of a shard as one flat list of accepted entries, each with its place, and one of chunks that are not stored.
-- What names no section of the Loki documentation is own.
use Rattle.std.specs.Prelude.{ℕ, ◌+◌, max, Bool, true, false, not, ◌&&◌, ◌||◌, List, [], ◌∷◌, filter, sum_by, length, bytes_eq, ◌==◌, nat_lt, if◌then◌else◌, IsPermutation, Option, Some, None}
use Rattle.ing_rows.specs.declared.entry.Entry.{Entry}
use Rattle.ing_rows.specs.declared.place.Place.{Place}
use Rattle.ing_rows.specs.declared.place.Place.TheVariants.{Head, Block, Flight, Stored}
use Rattle.ing_rows.specs.declared.place.SealReason.{SealReason}

-- A stream: one tenant's entries under one canonical label name (Loki documentation: architecture, log streams).
pub record StreamKey : Type 0 where
  pub tenant : List ℕ
  pub name : List ℕ

abbrev pub stream : List ℕ → List ℕ → StreamKey
stream tenant name = record { tenant = tenant; name = name }

-- An accepted entry: chunk is the first number of its chunk; block is the index of its block in it, and in the head the
-- count of closed blocks (Loki documentation: architecture, chunks; the numbers are own).
pub record Row : Type 0 where
  pub stream : StreamKey
  pub number : ℕ
  pub entry : Entry
  pub chunk : ℕ
  pub block : ℕ
  pub place : Place

-- A chunk that is not stored: growing, or sealed for a reason; the last update is the time of the last push that put an
-- entry into it, in nanoseconds (Loki documentation: ingester configuration, chunk_idle_period).
pub record Mark : Type 0 where
  pub stream : StreamKey
  pub chunk : ℕ
  pub last_update : ℕ
  pub reason : Option SealReason

-- the rows and marks of one shard
pub record State : Type 0 where
  pub rows : List Row
  pub marks : List Mark

-- the same rows and the same marks, in whatever order
pub record IsSame (a b : State) : Type 0 where
  pub rows : IsPermutation a.rows b.rows
  pub marks : IsPermutation a.marks b.marks

-- before any push
abbrev pub empty_state : State
empty_state = record { rows = []; marks = [] }

-- the same tenant and the same name
abbrev pub same_stream : StreamKey → StreamKey → Bool
same_stream a b = bytes_eq a.tenant b.tenant && bytes_eq a.name b.name

-- ---- the kinds of place

abbrev pub is_head : Place → Bool
is_head Head = true
is_head Block = false
is_head (Flight f) = false
is_head (Stored key) = false

abbrev pub is_block : Place → Bool
is_block Block = true
is_block Head = false
is_block (Flight f) = false
is_block (Stored key) = false

abbrev pub is_flight : ℕ → Place → Bool
is_flight f (Flight g) = f == g
is_flight f Head = false
is_flight f Block = false
is_flight f (Stored key) = false

abbrev pub is_in_flight : Place → Bool
is_in_flight (Flight g) = true
is_in_flight Head = false
is_in_flight Block = false
is_in_flight (Stored key) = false

abbrev pub is_stored : Place → Bool
is_stored (Stored key) = true
is_stored Head = false
is_stored Block = false
is_stored (Flight f) = false

-- ---- a stream's rows

-- what an entry counts against sizes, in bytes: 16 and its line (own)
abbrev pub size_of : Entry → ℕ
size_of e = 16 + length e.line

-- of all of them
abbrev pub size_of_rows : List Row → ℕ
size_of_rows rows = sum_by (λ r. size_of r.entry) rows

-- the rows of one stream
abbrev pub rows_of : StreamKey → List Row → List Row
rows_of s rows = filter (λ r. same_stream r.stream s) rows

-- the rows of one chunk of one stream
abbrev pub is_of_chunk : StreamKey → ℕ → Row → Bool
is_of_chunk s chunk r = same_stream r.stream s && (r.chunk == chunk)

abbrev pub rows_of_chunk : StreamKey → ℕ → List Row → List Row
rows_of_chunk s chunk rows = filter (is_of_chunk s chunk) rows

-- how many entries the stream has had accepted (own)
abbrev pub count_of : List Row → StreamKey → ℕ
count_of rows s = length (rows_of s rows)

-- the greatest stamp among rows, and 0 where there is none
abbrev pub greatest_stamp : List Row → ℕ
greatest_stamp [] = 0
greatest_stamp (r ∷ rows) = max r.entry.stamp (greatest_stamp rows)

-- the stream's greatest accepted stamp, from which its window is counted (Loki documentation: accepting out-of-order writes)
abbrev pub highest_of : List Row → StreamKey → ℕ
highest_of rows s = greatest_stamp (rows_of s rows)

-- of two rows the one with the greater number
abbrev pub later : Row → Option Row → Option Row
later r None = Some r
later r (Some q) = if nat_lt q.number r.number then Some r else Some q

-- the row with the greatest number
abbrev pub latest : List Row → Option Row
latest [] = None
latest (r ∷ rows) = later r (latest rows)

-- the stream's last accepted entry (own)
abbrev pub last_of : List Row → StreamKey → Option Row
last_of rows s = latest (rows_of s rows)

-- the list has the stream
abbrev pub has_stream : StreamKey → List StreamKey → Bool
has_stream s [] = false
has_stream s (t ∷ ts) = same_stream t s || has_stream s ts

-- the streams that have a row, each once
abbrev pub streams_of : List Row → List StreamKey
streams_of [] = []
streams_of (r ∷ rows) = if has_stream r.stream (streams_of rows) then streams_of rows else r.stream ∷ streams_of rows

-- a row of the tenant that is not stored
abbrev pub is_live : List ℕ → Row → Bool
is_live tenant r = bytes_eq r.stream.tenant tenant && not (is_stored r.place)

-- a tenant's streams that have an entry which is not stored (Loki documentation: limits, max_streams_per_user; in one shard: own)
abbrev pub live_streams : List Row → List ℕ → List StreamKey
live_streams rows tenant = streams_of (filter (is_live tenant) rows)

-- the rows with which the stream's chunks begin
abbrev pub chunk_starts : StreamKey → List Row → List Row
chunk_starts s rows = filter (λ r. same_stream r.stream s && (r.number == r.chunk)) rows
