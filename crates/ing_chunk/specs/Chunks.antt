-- What contracts see of a chunk: numbered entries with block boundaries, the last update and the reason, and nothing else.
-- What names no section of the Loki documentation is own.
use Rattle.std.specs.Prelude.{◌≡◌, ◌≢◌, ◌⊎◌, ℕ, ◌+◌, ◌-◌, ◌<◌, ◌≤◌, ◌^◌, max, min, Bool, true, false, ◌&&◌, ◌==◌, nat_le, nat_lt, if◌then◌else◌, List, [], ◌∷◌, ◌++◌, All, filter, map, length, sum_by, is_some, is_none, IsPermutation, Option, Some, None}
use Rattle.std.specs.List.Sorted.{IsSortedBy}
use Rattle.std.specs.Ordering.{is_lt, nat_cmp, ordering_then}
use Rattle.std.specs.Option.{unwrap_or}
use Rattle.ing_rows.specs.declared.entry.Entry.{Entry}
use Rattle.ing_rows.specs.declared.place.Place.{Place}
use Rattle.ing_rows.specs.declared.place.Place.TheVariants.{Head, Block}
use Rattle.ing_rows.specs.declared.place.SealReason.{SealReason}
use Rattle.ing_rows.specs.declared.place.SealReason.TheVariants.{Full, Idle, MaxAge}
use Rattle.ing_rows.specs.declared.rules.Rules.{Rules}
use Rattle.ing_rows.specs.Rows.{StreamKey, Row, Mark, State, empty_state, size_of, is_stored}
use Rattle.ing_rows.specs.Turns.{beside}
use Rattle.ing_chunk.specs.declared.numbered.Numbered.{Numbered}
use Rattle.ing_chunk.specs.Parts.{AreParts, AreNumbered}

-- A chunk (Loki documentation: architecture, chunks): its first number, the entries of each closed block in order of stamp,
-- then number, and those of the head in order of arrival; the time of the last push that put an entry into it, in
-- nanoseconds, and why it takes no more entries, if it is sealed.
pub record ChunkContents : Type 0 where
  pub first : ℕ
  pub blocks : List (List Numbered)
  pub head : List Numbered
  pub last_update : ℕ
  pub reason : Option SealReason

-- the entries of blocks, one block after another
abbrev pub in_blocks : List (List Numbered) → List Numbered
in_blocks [] = []
in_blocks (b ∷ bs) = b ++ in_blocks bs

-- all its entries, block after block, then the head
abbrev pub entries_of : ChunkContents → List Numbered
entries_of c = in_blocks c.blocks ++ c.head

-- what entries count against sizes, in bytes (own)
abbrev pub size_of_entries : List Numbered → ℕ
size_of_entries es = sum_by (λ e. size_of e.entry) es

-- the size of a chunk, head and blocks together
abbrev pub size_of_chunk : ChunkContents → ℕ
size_of_chunk c = size_of_entries c.head + size_of_entries (in_blocks c.blocks)

-- ---- a chunk's part of the state of a shard

-- an entry's row
abbrev pub row_in : StreamKey → ℕ → ℕ → Place → Numbered → Row
row_in s first block place e = record { stream = s; number = e.number; entry = e.entry; chunk = first; block = block; place = place }

-- the rows of closed blocks, of which the first has this index
abbrev pub block_rows : StreamKey → ℕ → ℕ → List (List Numbered) → List Row
block_rows s first index [] = []
block_rows s first index (b ∷ bs) = map (row_in s first index Block) b ++ block_rows s first (index + 1) bs

abbrev pub head_rows : StreamKey → ChunkContents → List Row
head_rows s c = map (row_in s c.first (length c.blocks) Head) c.head

abbrev pub mark_of : StreamKey → ChunkContents → Mark
mark_of s c = record { stream = s; chunk = c.first; last_update = c.last_update; reason = c.reason }

abbrev pub chunk_state : StreamKey → ChunkContents → State
chunk_state s c =
    record {
      rows = head_rows s c ++ block_rows s c.first 0 c.blocks;
      marks = mark_of s c ∷ [];
    }

-- of several chunks of a stream
abbrev pub chunks_state : StreamKey → List ChunkContents → State
chunks_state s [] = empty_state
chunks_state s (c ∷ cs) = beside (chunk_state s c) (chunks_state s cs)

-- of the growing chunk, where there is one
abbrev pub growing_state : StreamKey → Option ChunkContents → State
growing_state s None = empty_state
growing_state s (Some c) = chunk_state s c

-- ---- the chunks of one stream in memory

-- the number that its next accepted entry has; the sealed chunks, the oldest first; the growing one, where there is one
pub record ChunksContents : Type 0 where
  pub next : ℕ
  pub waiting : List ChunkContents
  pub growing : Option ChunkContents

-- their part of the state of a shard
abbrev pub stream_state : StreamKey → ChunksContents → State
stream_state s chunks = beside (growing_state s chunks.growing) (chunks_state s chunks.waiting)

-- ---- what changes them

-- a chunk that begins with this number and has no entry
abbrev pub empty_chunk : ℕ → ChunkContents
empty_chunk first = record { first = first; blocks = []; head = []; last_update = 0; reason = None }

-- one more entry in the head
abbrev pub with_entry : Entry → ℕ → ℕ → ChunkContents → ChunkContents
with_entry e n now c = record c { head = c.head ++ record { number = n; entry = e } ∷ []; last_update = now }

-- the head closed into this block
abbrev pub with_block : List Numbered → ChunkContents → ChunkContents
with_block block c = record c { blocks = c.blocks ++ block ∷ []; head = [] }

-- the head is closed, and its block has its entries, in whatever order; an empty head stays
abbrev pub closes : List Numbered → ChunkContents → ChunkContents → Type 0
closes [] old new = new ≡ old
closes (e ∷ es) old new = (block : List Numbered) × IsPermutation old.head block × (new ≡ with_block block old)

abbrev pub Closes : ChunkContents → ChunkContents → Type 0
Closes old new = closes old.head old new

-- the chunk that the next entry goes to
abbrev pub chunk_to_grow : ChunksContents → ChunkContents
chunk_to_grow c = unwrap_or c.growing (empty_chunk c.next)

-- a chunk that has one more entry: full, or with a head that is to be closed into this block, or neither
abbrev pub settled : Bool → Bool → List Numbered → ChunkContents → ChunkContents
settled true cut block g = record (with_block block g) { reason = Some Full }
settled false true block g = with_block block g
settled false false block g = g

-- and where it stands then
abbrev pub placed : Bool → Bool → List Numbered → ChunkContents → ChunksContents → ChunksContents
placed true cut block g c = record { next = c.next + 1; waiting = c.waiting ++ settled true cut block g ∷ []; growing = None }
placed false cut block g c = record { next = c.next + 1; waiting = c.waiting; growing = Some (settled false cut block g) }

-- whether it has reached the target size, and whether its head has reached the block size
abbrev pub is_full : Rules → ChunkContents → Bool
is_full rules g = nat_le rules.chunk_target_size (size_of_chunk g)

abbrev pub is_to_cut : Rules → ChunkContents → Bool
is_to_cut rules g = nat_le rules.chunk_block_size (size_of_entries g.head)

-- a chunk that has one more entry is cut and sealed, where the sizes are reached
abbrev pub Settles : Rules → ChunkContents → ChunkContents → Type 0
Settles rules old new = (block : List Numbered) × IsPermutation old.head block × (new ≡ settled (is_full rules old) (is_to_cut rules old) block old)

-- one more entry, where a head that it fills is closed into this block
abbrev pub taken_with : List Numbered → Rules → ℕ → Entry → ChunksContents → ChunksContents
taken_with block rules now e c =
    let g = with_entry e c.next now (chunk_to_grow c) in
    placed (is_full rules g) (is_to_cut rules g) block g c

-- one accepted entry is put in
pub record TakesOne (rules : Rules) (now : ℕ) (e : Entry) (old new : ChunksContents) : Type 0 where
  pub block : List Numbered
  pub reorders : IsPermutation (with_entry e old.next now (chunk_to_grow old)).head block
  pub is : new ≡ taken_with block rules now e old

-- accepted entries are put in one after another
abbrev pub Takes : Rules → ℕ → List Entry → ChunksContents → ChunksContents → Type 0
Takes rules now [] old new = new ≡ old
Takes rules now (e ∷ es) old new = (mid : ChunksContents) × TakesOne rules now e old mid × Takes rules now es mid new

-- one entry stands before another: by stamp, then by number
abbrev pub comes_before : Numbered → Numbered → Bool
comes_before a b = is_lt (ordering_then (nat_cmp a.entry.stamp b.entry.stamp) (nat_cmp a.number b.number))

-- no entry comes before the one that stands before it
abbrev pub AreInOrder : List Numbered → Type 0
AreInOrder es = IsSortedBy comes_before es

-- ---- what holds of each value

-- no block is empty, and the entries are as many as the numbers that it covers
abbrev pub AreBlocks : List (List Numbered) → Type 0
AreBlocks bs = All (λ b. b ≢ []) bs

-- how many entries
abbrev pub count_in : ChunkContents → ℕ
count_in c = length c.head + length (in_blocks c.blocks)

-- how many entries of a chunk have its first number
abbrev pub starts : ℕ → List Numbered → ℕ
starts first es = sum_by (λ e. if e.number == first then 1 else 0) es

abbrev pub starts_in : ChunkContents → ℕ
starts_in c = starts c.first c.head + starts c.first (in_blocks c.blocks)

-- a chunk covers the numbers from its first on: its blocks consecutive parts of them, and its head those after
-- them, in order of arrival
pub record Covers (c : ChunkContents) : Type 0 where
  pub parts : AreParts c.first c.blocks
  pub head : AreNumbered (c.first + length (in_blocks c.blocks)) c.head

-- a sealed chunk that can be handed on whole: its head is closed, and its blocks cover consecutive numbers, one or
-- more and fewer than 2^32, with lines that are not too long
pub record IsWhole (c : ChunkContents) : Type 0 where
  pub sealed : is_none c.reason ≡ false
  pub closed : c.head ≡ []
  pub some : c.blocks ≢ []
  pub parts : AreParts c.first c.blocks
  pub few : count_in c < 2 ^ 32
  pub last : c.first + count_in c ≤ 2 ^ 62

-- the growing chunk is unsealed, not empty, and covers the numbers up to the next
pub record Grows (next : ℕ) (c : ChunkContents) : Type 0 where
  pub open_yet : c.reason ≡ None
  pub some : 0 < count_in c
  pub up_to : c.first + count_in c ≡ next
  pub blocks : AreBlocks c.blocks
  pub begins : starts_in c ≡ 1
  pub covers : Covers c
  pub small : size_of_chunk c < 2 ^ 30

abbrev pub GrowsIfAny : ℕ → Option ChunkContents → Type 0
GrowsIfAny next None = Unit {0}
GrowsIfAny next (Some c) = Grows next c

-- a whole chunk that begins before this number
pub record IsWaiting (first : ℕ) (c : ChunkContents) : Type 0 where
  pub older : c.first < first
  pub whole : IsWhole c
  pub begins : starts_in c ≡ 1

-- such chunks
abbrev pub Waits : ℕ → List ChunkContents → Type 0
Waits first cs = All (IsWaiting first) cs

-- chunks of which the first begins at a number, each other one where the one before it ended, and of which the last
-- ends at a number
abbrev pub Follow : ℕ → ℕ → List ChunkContents → Type 0
Follow from to [] = from ≡ to
Follow from to (c ∷ cs) = (c.first ≡ from) × Follow (from + count_in c) to cs

-- chunks that cover consecutive numbers, from a base up to this one
pub record AreInTurn (to : ℕ) (cs : List ChunkContents) : Type 0 where
  pub base : ℕ
  pub follow : Follow base to cs

-- the chunks of one stream in memory: those that wait and the growing one cover consecutive numbers
pub record AreChunks (c : ChunksContents) : Type 0 where
  pub growing : GrowsIfAny c.next c.growing
  pub waiting : Waits (chunk_to_grow c).first c.waiting
  pub in_turn : AreInTurn (chunk_to_grow c).first c.waiting
  pub few : c.next ≤ 2 ^ 62

-- ---- stamps

-- the greatest stamp, and 0 where there is no entry
abbrev pub greatest_of : List Numbered → ℕ
greatest_of [] = 0
greatest_of (e ∷ es) = max e.entry.stamp (greatest_of es)

-- the least stamp, where none is above 2^63-1, and 2^63-1 where there is no entry
abbrev pub least_of : List Numbered → ℕ
least_of [] = 2 ^ 63 - 1
least_of (e ∷ es) = min e.entry.stamp (least_of es)

-- each stamp is below 2^63
abbrev pub AreStamps : List Numbered → Type 0
AreStamps es = All (λ e. e.entry.stamp < 2 ^ 63) es

-- the least and the greatest stamp of a chunk that has an entry
abbrev pub span_of : ChunkContents → Option (ℕ × ℕ)
span_of c = if (count_in c == 0) then None else Some (min (least_of c.head) (least_of (in_blocks c.blocks)), max (greatest_of c.head) (greatest_of (in_blocks c.blocks)))

-- the least and the greatest stamp of entries, and none where there is no entry
abbrev pub IsSpanOf : Option (ℕ × ℕ) → List Numbered → Type 0
IsSpanOf None es = es ≡ []
IsSpanOf (Some span) es = (es ≢ []) × (span.0 ≡ least_of es) × (span.1 ≡ greatest_of es)

-- why a growing chunk is due
abbrev pub due_in : Rules → ℕ → ChunkContents → Option SealReason
due_in rules now c =
    if nat_lt rules.chunk_idle_period (now - c.last_update) then Some Idle
    else if nat_lt rules.max_chunk_age (max (greatest_of c.head) (greatest_of (in_blocks c.blocks)) - min (least_of c.head) (least_of (in_blocks c.blocks))) then Some MaxAge
    else None

-- the reason of a sealed chunk; an empty one is never due
abbrev pub due_now : Rules → ℕ → ChunkContents → Option SealReason
due_now rules now c = if is_some c.reason then c.reason else if (count_in c == 0) then None else due_in rules now c

-- ---- sealing

-- a chunk is sealed for a reason: its head is closed first
abbrev pub SealsChunk : SealReason → ChunkContents → ChunkContents → Type 0
SealsChunk why old new = (mid : ChunkContents) × Closes old mid × (new ≡ record mid { reason = Some why })

-- the growing chunk is sealed, and waits
pub record SealsGrowing (why : SealReason) (old new : ChunksContents) : Type 0 where
  pub chunk : ChunkContents
  pub grows : old.growing ≡ Some chunk
  pub done : ChunkContents
  pub sealed : SealsChunk why chunk done
  pub is : new ≡ record { next = old.next; waiting = old.waiting ++ done ∷ []; growing = None }

-- why the growing chunk is due, if there is one
abbrev pub due_of_growing : Rules → ℕ → Option ChunkContents → Option SealReason
due_of_growing rules now None = None
due_of_growing rules now (Some g) = due_in rules now g

abbrev pub growing_due : Rules → ℕ → ChunksContents → Option SealReason
growing_due rules now c = due_of_growing rules now c.growing

-- ---- entries that reach no size

-- what entries count against sizes, in bytes
abbrev pub size_of_all : List Entry → ℕ
size_of_all es = sum_by size_of es

-- entries under numbers from this one on
abbrev pub numbered_from : ℕ → List Entry → List Numbered
numbered_from n [] = []
numbered_from n (e ∷ es) = record { number = n; entry = e } ∷ numbered_from (n + 1) es

-- all of them are in the head
abbrev pub with_run : List Numbered → ℕ → ChunkContents → ChunkContents
with_run run now g = record g { head = g.head ++ run; last_update = now }

-- the growing chunk reaches no size by these entries
pub record Fits (rules : Rules) (es : List Entry) (c : ChunksContents) : Type 0 where
  pub chunk : ChunkContents
  pub grows : c.growing ≡ Some chunk
  pub head : size_of_entries chunk.head + size_of_all es < rules.chunk_block_size
  pub whole : size_of_chunk chunk + size_of_all es < rules.chunk_target_size

-- ---- what every crate above may rest on

-- a row of the stream that is not stored
pub record IsInMemory (s : StreamKey) (r : Row) : Type 0 where
  pub stream : r.stream ≡ s
  pub place : is_stored r.place ≡ false

-- no chunk of the stream is missing: those that wait have the entries before the next chunk's first
abbrev pub HasAll : ChunksContents → Type 0
HasAll c = sum_by count_in c.waiting ≡ (chunk_to_grow c).first

-- ---- reading

-- the entry's stamp is at least the start and below the end
abbrev pub is_between : ℕ → ℕ → Numbered → Bool
is_between start end e = nat_le start e.entry.stamp && nat_lt e.entry.stamp end

-- the entries of chunks, one chunk after another
abbrev pub entries_of_all : List ChunkContents → List Numbered
entries_of_all [] = []
entries_of_all (c ∷ cs) = entries_of c ++ entries_of_all cs

-- and of the growing one, where there is one
abbrev pub entries_growing : Option ChunkContents → List Numbered
entries_growing None = []
entries_growing (Some c) = entries_of c

-- the entries of the chunks of a stream in memory: of those that wait, then of the growing one
abbrev pub entries_in_memory : ChunksContents → List Numbered
entries_in_memory c = entries_of_all c.waiting ++ entries_growing c.growing

-- entries whose span lies outside a range of stamps have none in it
abbrev pub SpansBoundStamps : Type 0
SpansBoundStamps =
    (start end : ℕ) (es : List Numbered) → (greatest_of es < start) ⊎ (end ≤ least_of es)
    → filter (is_between start end) es ≡ []

-- of entries in order none has a lower stamp than one before it
abbrev pub StampsRise : Type 0
StampsRise =
    (before after : List Numbered) (e : Numbered) → AreInOrder (before ++ e ∷ after)
    → All (λ x. x.entry.stamp ≤ e.entry.stamp) before × All (λ x. e.entry.stamp ≤ x.entry.stamp) after
