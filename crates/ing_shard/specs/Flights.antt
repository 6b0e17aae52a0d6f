-- Chunks that are claimed: where they stand, and what a flush does to a stream.
-- What names no section of the Loki documentation is own.
use Rattle.std.specs.Prelude.{◌≡◌, ◌≢◌, ℕ, ◌<◌, ◌==◌, List, IsPermutation, length, filter, map, sum_by, slice_get, is_some, if◌then◌else◌, Some}
use Rattle.slab.specs.Slab.{Slab, get}
use Rattle.sha2.specs.Sha256.{sha256}
use Rattle.ing_labels.specs.Labels.{LabelMap}
use Rattle.ing_labels.specs.Canonical.{canonical_of}
use Rattle.ing_rows.specs.declared.place.Place.TheVariants.{Flight}
use Rattle.ing_rows.specs.Rows.{StreamKey, Row, State, is_flight}
use Rattle.ing_rows.specs.Claims.{claimable_count}
use Rattle.ing_chunk.specs.Chunks.{ChunkContents, block_rows, in_blocks}
use Rattle.ing_store.specs.ChunkObjects.{ChunkObject, chunk_text}
use Rattle.ing_store.specs.ChunkReading.{chunk_object}
use Rattle.ing_store.specs.ObjectNames.{chunk_name, row_name}
use Rattle.ing_store.specs.RowObjects.{IsExtentOf, row_object, row_text}
use Rattle.ing_store.specs.Extent.{Extent}
use Rattle.ing_parts.specs.Listings.{Listed}
use Rattle.ing_checkpoint.specs.Slots.{Slot, slot_at}
use Rattle.ing_checkpoint.specs.Contents.{flights_of}
use Rattle.ing_shard.specs.Contents.{Contents, stream_of}
use Rattle.ing_shard.specs.OneStream.{Stream}

-- A claimed chunk: its shard by number, the number of its flight, whose stream it is of, and the chunk.
pub record Flown : Type 0 where
  pub shard : ℕ
  pub flight : ℕ
  pub tenant : List ℕ
  pub labels : LabelMap
  pub chunk : ChunkContents

-- its stream
abbrev pub key_in : Flown → StreamKey
key_in f = stream_of f.tenant f.labels

-- the object that it is stored as
abbrev pub object_in : Flown → ChunkObject
object_in f = chunk_object f.tenant (canonical_of f.labels) f.chunk.first f.chunk.blocks

-- how many entries it has
abbrev pub entries_in : Flown → ℕ
entries_in f = length (in_blocks f.chunk.blocks)

-- it is in flight under this number among these streams, with this index among the stream's sealed chunks
pub record IsAt (f : Flown) (number index : ℕ) (keys : List StreamKey) (sealed : List (List Slot)) : Type 0 where
  pub stream : slice_get keys number ≡ Some (key_in f)
  pub slots : List Slot
  pub listed : slice_get sealed number ≡ Some slots
  pub stands : slice_get slots index ≡ Some (slot_at (Flight f.flight) f.chunk)

-- it is in flight somewhere there
abbrev pub Flies : Flown → List StreamKey → List (List Slot) → Type 0
Flies f keys sealed = (number : ℕ) × (index : ℕ) × IsAt f number index keys sealed

-- it is in flight in the shard
abbrev pub IsInFlight : Flown → Contents → Type 0
IsInFlight f contents = (f.shard ≡ contents.number) × Flies f contents.listed contents.sealed

-- of the listed stream with this number a chunk waits to be claimed
abbrev pub Waits : ℕ → List StreamKey → State → Type 0
Waits number listed st = (s : StreamKey) × (slice_get listed number ≡ Some s) × (0 < claimable_count s st)

-- the rows in its flight are those of its chunk
abbrev pub FliesAs : Flown → State → Type 0
FliesAs f st =
    IsPermutation (filter (λ r. is_flight f.flight r.place) st.rows)
    (map (λ (r : Row). record r { place = Flight f.flight }) (block_rows (key_in f) f.chunk.first 0 f.chunk.blocks))

-- what is in flight stays in flight
abbrev pub FlightsStay : Contents → Contents → Type 0
FlightsStay old new = (f : Flown) → IsInFlight f old → IsInFlight f new

-- the same but for the chunk of one flight
abbrev pub OtherFlightsStay : ℕ → Contents → Contents → Type 0
OtherFlightsStay flight old new = (f : Flown) → f.flight ≢ flight → IsInFlight f old → IsInFlight f new

-- What is listed of it is the chunk, under the key of its text; the receipt means that text, under the chunk's name.
pub record IsChunkUploaded (f : Flown) (listing : Listed) : Type 0 where
  pub first : listing.first ≡ f.chunk.first
  pub blocks : listing.blocks ≡ f.chunk.blocks
  pub key : listing.key ≡ sha256 (chunk_text (object_in f))
  pub bytes : listing.bytes ≡ chunk_text (object_in f)
  pub name : listing.name ≡ chunk_name listing.key

-- A receipt means the text of its index row, which has the key of the chunk's text, under the row's name.
pub record IsRowUploaded (f : Flown) (row_bytes row_named : List ℕ) : Type 0 where
  pub extent : Extent
  pub extends : IsExtentOf f.chunk extent
  pub row : row_bytes
      ≡ row_text (row_object f.tenant (canonical_of f.labels) extent (sha256 (chunk_text (object_in f))))
  pub named : row_named ≡ row_name f.tenant (canonical_of f.labels) (sha256 (chunk_text (object_in f)))

-- both
pub record IsUploaded (f : Flown) (listing : Listed) (row_bytes row_named : List ℕ) : Type 0 where
  pub chunk : IsChunkUploaded f listing
  pub row : IsRowUploaded f row_bytes row_named

-- ---- numbers of flights

-- how many chunks of a stream are in this flight, and how many of all streams
abbrev pub flights_in : ℕ → Stream → ℕ
flights_in f st = length (filter (λ g. g == f) (flights_of st.chunks.sealed))

abbrev pub flights_among : ℕ → List Stream → ℕ
flights_among f sts = sum_by (flights_in f) sts

-- no two chunks are in the same flight, and no number is taken but those of flights
abbrev pub AreApart : {T : Type 0} → Slab T → List Stream → Type 0
AreApart taken sts = (f : ℕ) → flights_among f sts ≡ (if is_some (get taken f) then 1 else 0)
