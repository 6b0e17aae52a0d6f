-- Entries that are put in behind a head that they close, and what they come to.
use Rattle.std.specs.Prelude.{◌≡◌, ℕ, ◌*◌, ◌<◌, ◌≤◌, ◌^◌, Bool, true, false, nat_le, ◌||◌, ◌-◌, List, [], ◌∷◌, ◌++◌, take, length, is_none, sum_by, Some, None, ◌+◌}
use Rattle.ing_rows.specs.declared.entry.Entry.{Entry}
use Rattle.ing_rows.specs.declared.rules.Rules.{Rules}
use Rattle.ing_rows.specs.declared.place.SealReason.TheVariants.{Full}
use Rattle.ing_chunk.specs.Chunks.{ChunkContents, ChunksContents, AreChunks, Closes, Takes, chunk_to_grow, count_in, numbered_from, size_of_chunk, size_of_entries, size_of_all, with_run}
use Rattle.ing_chunk.specs.declared.chunks.later.Later.{Later}

-- what one chunk has, whose head is closed, and behind it what another has, whose numbers go on from there
abbrev pub joined : ChunkContents → ChunkContents → ChunkContents
joined g t = record g { blocks = g.blocks ++ t.blocks; head = t.head; reason = t.reason }

-- a chunk whose head is closed, into which entries were put at this time
pub record IsClosed (now : ℕ) (g : ChunkContents) : Type 0 where
  pub head : g.head ≡ []
  pub last_update : g.last_update ≡ now
  pub open_yet : g.reason ≡ None

-- the chunks of a stream whose growing chunk has just had its head closed: it is full, or goes on to grow
abbrev pub closed_into : Bool → ChunkContents → ℕ → List ChunkContents → ChunksContents
closed_into true g next before = record { next = next; waiting = before ++ record g { reason = Some Full } ∷ []; growing = None }
closed_into false g next before = record { next = next; waiting = before; growing = Some g }

-- what stands behind a closed head: it grows with its chunk, or that is sealed, and others follow
abbrev pub put_as : Bool → ChunkContents → List ChunkContents → Later → ChunksContents
put_as true g before later = record { next = later.next; waiting = before; growing = Some (joined g later.tail) }
put_as false g before later = record { next = later.next; waiting = before ++ joined g later.tail ∷ later.sealed.items; growing = later.growing }

abbrev pub put_behind : ChunkContents → List ChunkContents → Later → ChunksContents
put_behind g before later = put_as (is_none later.tail.reason) g before later

-- it is what these entries come to, behind whatever chunk of this size has its head closed at this time
abbrev pub Continues : Rules → ℕ → ℕ → ℕ → List Entry → Later → Type 0
Continues rules now size next es later =
    (g : ChunkContents) (before : List ChunkContents) → IsClosed now g → size_of_chunk g ≡ size
    → Takes rules now es (closed_into (nat_le rules.chunk_target_size size) g next before) (put_behind g before later)

-- what it counts is what its sealed chunks have, the tail among them
pub record IsCounted (later : Later) : Type 0 where
  pub count : is_none later.tail.reason ≡ false → later.count ≡ count_in later.tail + sum_by count_in later.sealed.items
  pub size : is_none later.tail.reason ≡ false → later.size ≡ size_of_chunk later.tail + sum_by size_of_chunk later.sealed.items
  pub small : later.size ≤ later.count * 2 ^ 65

-- by these entries in its head a chunk reaches no size
pub record HasRoom (rules : Rules) (g : ChunkContents) (es : List Entry) : Type 0 where
  pub head : size_of_entries g.head + size_of_all es < rules.chunk_block_size
  pub whole : size_of_chunk g + size_of_all es < rules.chunk_target_size

-- by these entries its head is to be closed: it reaches the block size, or the chunk the target size
abbrev pub is_reached : Rules → ChunkContents → List Entry → Bool
is_reached rules g es = nat_le rules.chunk_block_size (size_of_entries g.head + size_of_all es) || nat_le rules.chunk_target_size (size_of_chunk g + size_of_all es)

-- of these entries so many have room, as far as there are any, and with one more a size is reached
pub record Reaches (rules : Rules) (es : List Entry) (count : ℕ) (c : ChunksContents) : Type 0 where
  pub chunk : ChunkContents
  pub grows : c.growing ≡ Some chunk
  pub below : count < length es
  pub room : 0 < count → HasRoom rules chunk (take count es)
  pub reached : is_reached rules chunk (take (count + 1) es) ≡ true

-- chunks that a stream may have, of which those that wait have no more entries than numbers before the next chunk's
pub record CanStand (c : ChunksContents) : Type 0 where
  pub chunks : AreChunks c
  pub few : sum_by count_in c.waiting ≤ (chunk_to_grow c).first

-- entries were put into the head of the growing chunk, it was closed, and this stands behind it
pub record GoesOn (now : ℕ) (front : List Entry) (later : Later) (old new : ChunksContents) : Type 0 where
  pub chunk : ChunkContents
  pub grows : old.growing ≡ Some chunk
  pub closed : ChunkContents
  pub closes : Closes (with_run (numbered_from old.next front) now chunk) closed
  pub is : new ≡ put_behind closed old.waiting later

-- chunks behind a growing one whose head is closed: the first of them go on where it ends
abbrev pub behind_as : List ChunkContents → ChunkContents → List ChunkContents → ChunksContents → ChunksContents
behind_as [] g before c = record { next = c.next; waiting = before; growing = Some (joined g (chunk_to_grow c)) }
behind_as (t ∷ ts) g before c = record { next = c.next; waiting = before ++ joined g t ∷ ts; growing = c.growing }

abbrev pub behind : ChunkContents → List ChunkContents → ChunksContents → ChunksContents
behind g before c = behind_as c.waiting g before c

-- the rules by which the next entry is put in behind a growing chunk of this size: what that has counts for its own tail
abbrev pub rules_as : List ChunkContents → Rules → ℕ → Rules
rules_as [] rules size = record rules { chunk_target_size = rules.chunk_target_size - size }
rules_as (t ∷ ts) rules size = rules

-- entries were put in behind whatever growing chunk of this size has its head closed at this time
abbrev pub TakesBehind : Rules → ℕ → ℕ → List Entry → ChunksContents → ChunksContents → Type 0
TakesBehind rules now size es old new =
    (g : ChunkContents) (before : List ChunkContents) → IsClosed now g → size_of_chunk g ≡ size → Takes rules now es (behind g before old) (behind g before new)
