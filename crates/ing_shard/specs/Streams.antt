-- What the streams of a shard stand for, and what is kept of each.
use Rattle.std.specs.Prelude.{◌≡◌, ◌≢◌, ℕ, ◌+◌, ◌-◌, ◌*◌, ◌≤◌, ◌<◌, ◌^◌, max, Bool, true, false, not, List, [], ◌∷◌, All, bytes_eq, filter, length, sum_by, nat_lt, slice_get, if◌then◌else◌, map, Option, Some, None}
use Rattle.std.specs.List.{enumerate_from, list_any}
use Rattle.std.specs.Option.{option_map}
use Rattle.ing_labels.specs.Canonical.{canonical_of}
use Rattle.ing_labels.specs.Labels.{IsLabelSet}
use Rattle.ing_limits.specs.Settings.{StoreSettings}
use Rattle.ing_postings.specs.declared.postings.Listed.{Listed}
use Rattle.ing_rows.specs.declared.entry.Entry.{Entry}
use Rattle.ing_rows.specs.Rows.{StreamKey, Row, State, empty_state, is_head, is_block, is_in_flight, is_stored, same_stream}
use Rattle.ing_rows.specs.Facts.{Facts, facts_of}
use Rattle.ing_rows.specs.Gauges.{gauge_of, HaveRoom, AreWithin, with_changed, gauges_by}
use Rattle.ing_rows.specs.Sound.{IsSound}
use Rattle.ing_rows.specs.declared.place.Place.TheVariants.{Flight}
use Rattle.ing_rows.specs.Steps.{Claims}
use Rattle.ing_rows.specs.Turns.{beside, IsMarked}
use Rattle.ing_chunk.specs.Chunks.{ChunkContents}
use Rattle.ing_checkpoint.specs.Slots.{Slot, slot_at}
use Rattle.ing_checkpoint.specs.Contents.{flights_of, whole_state}
use Rattle.ing_checkpoint.specs.Sums.{flying_in}
use Rattle.ing_shard.specs.Books.{BookStates, Count, told_by}
use Rattle.ing_shard.specs.Contents.{AreOwn, chunks_flying}
use Rattle.ing_shard.specs.OneStream.{Stream}
use Rattle.ing_shard.specs.Flights.{AreApart, Flies, Flown}
use Rattle.ing_rows.specs.declared.gauges.Gauges.{Gauges}
use Rattle.ing_shard.specs.declared.books.Books.{Books}
use Rattle.ing_shard.specs.declared.streams.Streams.{Streams}
use Rattle.ing_shard.specs.declared.tenants.Tenants.{Tenants}
use Rattle.ing_shard.specs.Writable.{AllCanBeWritten}
use Rattle.ing_shard.specs.Tenants.{find_of, is_known, kept_of, listed_as, posted_of}

abbrev pub key_of : Stream → StreamKey
key_of st = record { tenant = st.tenant; name = canonical_of st.labels }

-- its part of the state of a shard
abbrev pub part_of : Stream → State
part_of st = whole_state (key_of st) st.chunks

-- its sealed chunks that a claim has taken over
abbrev pub slots_of : Stream → List Slot
slots_of st = st.chunks.sealed

-- the state of a shard that has these streams
abbrev pub whole : List Stream → State
whole [] = empty_state
whole (st ∷ sts) = beside (part_of st) (whole sts)

-- ---- what is kept of a stream

-- it has an entry that is not stored
abbrev pub has_live : Stream → Bool
has_live st = list_any (λ r. not (is_stored r.place)) (part_of st).rows

-- what is kept of it, as if it were its tenant's only one
abbrev pub facts_kept : Stream → Facts
facts_kept st =
    record {
      count = st.chunks.memory.next;
      greatest = st.greatest;
      last = st.last;
      is_live = has_live st;
      live = if has_live st then 1 else 0;
    }

abbrev pub with_live : ℕ → Facts → Facts
with_live live facts = record facts { live = live }

-- what rows of a tenant's stream add to the sums over its tenant's
abbrev pub measure_in : List Row → List ℕ → Gauges
measure_in rows tenant =
    record {
      streams = if list_any (λ r. not (is_stored r.place)) rows then 1 else 0;
      head = gauge_of is_head rows tenant;
      block = gauge_of is_block rows tenant;
      flight = gauge_of is_in_flight rows tenant;
      stored = gauge_of is_stored rows tenant;
    }

-- what a stream adds to them
abbrev pub measure_of : Stream → Gauges
measure_of st = measure_in (part_of st).rows st.tenant

-- sums over so many entries, of which no line is longer than memory
pub record IsSmall (count : ℕ) (sums : Gauges) : Type 0 where
  pub head : sums.head.bytes ≤ count * 2 ^ 65
  pub block : sums.block.bytes ≤ count * (3 * 2 ^ 64)
  pub flight : sums.flight.bytes ≤ count * 2 ^ 64
  pub stored : sums.stored.bytes ≤ count * 2 ^ 64

-- it is what its rows give, each of its chunks has one mark, no line is longer than memory, and each chunk in flight has an entry
pub record IsKept (st : Stream) : Type 0 where
  pub facts : facts_of (part_of st).rows (key_of st) ≡ facts_kept st
  pub sound : IsSound (part_of st)
  pub marked : IsMarked (part_of st)
  pub small : IsSmall st.chunks.memory.next (measure_of st)
  pub flights : length (flights_of st.chunks.sealed) ≤ flying_in st.chunks.sealed

-- a stream before and after a flush has changed where one of its chunks stands
pub record Stays (old new : Stream) : Type 0 where
  pub kept : IsKept new
  pub tenant : new.tenant ≡ old.tenant
  pub labels : new.labels ≡ old.labels
  pub next : new.chunks.memory.next ≡ old.chunks.memory.next

-- the greatest stamp of entries, beside this one
abbrev pub greatest_with : ℕ → List Entry → ℕ
greatest_with before [] = before
greatest_with before (e ∷ es) = greatest_with (max e.stamp before) es

-- ---- sums over streams

-- the sum over a tenant's streams
abbrev pub sum_of : (Gauges → ℕ) → List ℕ → List Stream → ℕ
sum_of f tenant streams = sum_by (λ st. f (measure_of st)) (filter (λ st. bytes_eq st.tenant tenant) streams)

abbrev pub measures_of : List ℕ → List Stream → Gauges
measures_of tenant streams = gauges_by (λ f. sum_of f tenant streams)

-- ---- streams by name

-- the place of the first stream with this key
abbrev pub position_of : StreamKey → List Stream → Option ℕ
position_of s [] = None
position_of s (st ∷ sts) = if same_stream (key_of st) s then Some 0 else option_map (λ i. i + 1) (position_of s sts)

-- a tenant's streams, with their numbers and labels
abbrev pub listed_of : List ℕ → List Stream → List Listed
listed_of tenant streams =
    map (λ e. listed_as e.0 e.1.labels) (filter (λ e. bytes_eq e.1.tenant tenant) (enumerate_from 0 streams))

-- no two have the same key
abbrev pub AreDistinct : List Stream → Type 0
AreDistinct [] = Unit {0}
AreDistinct (st ∷ sts) = All (λ other. same_stream (key_of other) (key_of st) ≡ false) sts × AreDistinct sts

-- ---- all streams of a shard

-- What is kept beside the streams is what they give: no two have the same name, each is found by it, the sums
-- of each tenant are those of its streams, and its label index lists its streams; no two chunks are in the same
-- flight; and at most 2^32-1 of them have an entry.
pub record AreHeld {R : Type 0} (streams : Streams R) : Type 0 where
  pub kept : All IsKept streams.list.items
  pub distinct : AreDistinct streams.list.items
  pub found : (s : StreamKey) → find_of streams.tenants s.tenant s.name ≡ position_of s streams.list.items
  pub known : All (λ st. is_known streams.tenants st.tenant ≡ true) streams.list.items
  pub labelled : All (λ st. IsLabelSet st.labels) streams.list.items
  pub posted : (tenant : List ℕ) → posted_of streams.tenants tenant ≡ listed_of tenant streams.list.items
  pub sums : (tenant : List ℕ) → kept_of streams.tenants tenant ≡ measures_of tenant streams.list.items
  pub entries : streams.entries ≡ sum_by (λ st. st.chunks.memory.next) streams.list.items
  pub stored : streams.stored ≡ sum_by (λ st. (measure_of st).stored.entries) streams.list.items
  pub active : streams.active ≡ length (filter (λ st. nat_lt 0 st.chunks.memory.next) streams.list.items)
  pub few : streams.entries ≤ 2 ^ 62
  pub most : streams.active ≤ 2 ^ 32 - 1
  pub flights : AreApart streams.flights streams.list.items

-- ---- flushes

-- a claimed chunk is in flight in one of these streams
abbrev pub FliesAmong : Flown → List Stream → Type 0
FliesAmong f streams = Flies f (map key_of streams) (map slots_of streams)

-- what is in flight in one of them stays in flight
abbrev pub StayAmong : List Stream → List Stream → Type 0
StayAmong olds news = (f : Flown) → FliesAmong f olds → FliesAmong f news

-- the same but for the chunk of one flight
abbrev pub OthersStayAmong : ℕ → List Stream → List Stream → Type 0
OthersStayAmong flight olds news = (f : Flown) → f.flight ≢ flight → FliesAmong f olds → FliesAmong f news

-- what is kept beside the streams can be set right after a flush has changed a stream, which had this measure
pub record CanSettle (tenants : Tenants) (total : ℕ) (now : Stream) (was : Gauges) : Type 0 where
  pub known : is_known tenants now.tenant ≡ true
  pub before : AreWithin was (kept_of tenants now.tenant)
  pub after : HaveRoom (with_changed (kept_of tenants now.tenant) was (measure_of now))
  pub stored : was.stored.entries ≤ total
  pub few : total + (measure_of now).stored.entries < 2 ^ 64

-- of the stream under this number, a chunk was put into this flight
pub record FliesAt (number f index : ℕ) (chunk : ChunkContents) (olds news : List Stream) : Type 0 where
  pub st : Stream
  pub was : slice_get olds number ≡ Some st
  pub now : Stream
  pub is : slice_get news number ≡ Some now
  pub key : key_of now ≡ key_of st
  pub claims : Claims (key_of st) chunk.first f (whole olds) (whole news)
  pub stands : slice_get now.chunks.sealed index ≡ Some (slot_at (Flight f) chunk)

-- ---- the shard

-- how many entries of sealed chunks are in flight
abbrev pub entries_flying : List (List Slot) → ℕ
entries_flying = sum_by flying_in

-- what the books of a shard with so many entries, of which so many are stored, and these sealed chunks count
abbrev pub counted_by : ℕ → ℕ → List (List Slot) → Count
counted_by entries stored sealed = record { accepted = entries; flying = entries_flying sealed; chunks = chunks_flying sealed; stored = stored }

abbrev pub counts_of : {R : Type 0} → Streams R → Count
counts_of streams = counted_by streams.entries streams.stored (map slots_of streams.list.items)

-- its books, as contracts see them
abbrev pub seen_of : Books → BookStates
seen_of books = record { accepted = books.accepted; flight = books.flight; stored = books.stored; counts = books.counts.name }

-- What is kept beside the streams of a shard is what they give, each of them is its own, the books count them, and a checkpoint can
-- tell of them.
pub record IsShard {R : Type 0} (settings : StoreSettings) (number : ℕ) (streams : Streams R) (books : BookStates) : Type 0 where
  pub held : AreHeld streams
  pub own : AreOwn settings.shards number (map key_of streams.list.items)
  pub counted : told_by books ≡ counts_of streams
  pub writable : AllCanBeWritten settings.rules.chunk_target_size streams.list.items
