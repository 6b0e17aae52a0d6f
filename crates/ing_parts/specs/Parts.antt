-- Where entries of streams stand that a query may want, and what a query gives of them.
-- What names no section of the Loki documentation is own.
use Rattle.std.specs.Prelude.{◌≡◌, ◌++◌, ℕ, ◌≤◌, Bool, true, ◌&&◌, nat_le, nat_lt, List, [], map, filter, Option, None, Some, IsPermutation}
use Rattle.std.specs.List.{AllPass, flat_map}
use Rattle.ing_rows.specs.Cursors.{Cursor}
use Rattle.ing_rows.specs.Rows.{StreamKey, Row}
use Rattle.ing_chunk.specs.declared.numbered.Numbered.{Numbered}
use Rattle.ing_chunk.specs.Chunks.{ChunksContents, block_rows, entries_in_memory, greatest_of, in_blocks, least_of, stream_state}
use Rattle.ing_parts.specs.declared.found.Found.{Found}
use Rattle.ing_parts.specs.declared.snapshot.Part.{Part}
use Rattle.ing_parts.specs.declared.snapshot.Snapshot.{Snapshot}
use Rattle.ing_parts.specs.declared.snapshot.Source.{Source}
use Rattle.ing_parts.specs.declared.snapshot.Source.TheVariants.{Block, Stored}
use Rattle.ing_rows.specs.declared.order.Order.{Order}
use Rattle.ing_rows.specs.declared.order.Order.TheVariants.{Forward, Backward}
use Rattle.ing_parts.specs.Answers.{AreSomeOf, StandFor, precedes}
use Rattle.ing_parts.specs.Questions.{Question, question_view}

-- the entries of a place
abbrev pub entries_in : {R : Type 0} → Source R → List Numbered
entries_in (Block block) = block
entries_in (Stored listing) = in_blocks listing.blocks

-- what a query gives of an entry of the stream of this name
abbrev pub found_of : List ℕ → Numbered → Found
found_of name e = record { name = name; number = e.number; entry = e.entry }

-- what a query gives of a row
abbrev pub found_at : Row → Found
found_at r = record { name = r.stream.name; number = r.number; entry = r.entry }

-- the entries of a part
abbrev pub found_in : {R : Type 0} → Part R → List Found
found_in p = map (found_of p.name) (entries_in p.source)

-- the entries of all of them
abbrev pub found_among : {R : Type 0} → List (Part R) → List Found
found_among ps = flat_map found_in ps

-- an entry that stands where a cursor is; its line does not count in an order
abbrev pub found_there : Cursor → Found
found_there c = record { name = c.stream; number = c.number; entry = record { stamp = c.stamp; line = [] } }

-- the place of an entry
abbrev pub place_of : Found → Cursor
place_of f = record { stamp = f.entry.stamp; stream = f.name; number = f.number }

-- an entry stands behind the cursor in the order, where there is one
abbrev pub is_behind : Order → Option Cursor → Found → Bool
is_behind order None f = true
is_behind order (Some c) f = precedes order (found_there c) f

-- an entry is in the range of a question: its stamp is at least the start and below the end (Loki documentation: HTTP API, query
-- range: start and end), and it stands behind the cursor
abbrev pub is_within : Question → Found → Bool
is_within q f = (nat_le q.start f.entry.stamp && nat_lt f.entry.stamp q.end) && is_behind q.order q.after f

-- those in the range
abbrev pub within : Question → List Found → List Found
within q = filter (is_within q)

-- the same question, of what stands behind this entry
abbrev pub behind : Found → Question → Question
behind last q = record { start = q.start; end = q.end; order = q.order; limit = q.limit; after = Some (place_of last) }

-- of entries of the stream of this name those in the range
abbrev pub found_between : List ℕ → Question → List Numbered → List Found
found_between name q es = within q (map (found_of name) es)

-- the stamp of each of these entries is this one or comes after it in the order
abbrev pub AreFrom : Order → ℕ → List Numbered → Type 0
AreFrom Forward from es = from ≤ least_of es
AreFrom Backward from es = greatest_of es ≤ from

-- what a snapshot is asked
abbrev pub asked : {R : Type 0} → Snapshot R → Question
asked s = question_view s.question

-- the entries of a snapshot that are wanted: those that it keeps, and those of its parts that are in its range
abbrev pub wanted : {R : Type 0} → Snapshot R → List Found
wanted s = s.best.held ++ within (asked s) (found_among s.parts.items)

-- the entries that stand in a snapshot: those that it keeps, and all of its parts
abbrev pub standing : {R : Type 0} → Snapshot R → List Found
standing s = s.best.held ++ found_among s.parts.items

-- the range of a snapshot is that of a question, whatever it says of stamps that the cursor leaves out
abbrev pub HasRangeOf : {R : Type 0} → Question → Snapshot R → Type 0
HasRangeOf q s = (f : Found) → is_within (asked s) f ≡ is_within q f

-- each entry that a snapshot keeps is in its range
abbrev pub KeepsInRange : {R : Type 0} → Snapshot R → Type 0
KeepsInRange s = AllPass (is_within (asked s)) s.best.held

-- what is wanted of these entries is added to a snapshot, as far as it may be in an answer; no other is added,
-- none twice, and of those out of its range none is kept
pub record Adds {R : Type 0} (all : List Found) (old new : Snapshot R) : Type 0 where
  pub front : new.front ≡ old.front
  pub question : new.question ≡ old.question
  pub order : new.best.order ≡ old.best.order
  pub limit : new.best.limit ≡ old.best.limit
  pub drawn : AreSomeOf (standing new) (standing old ++ all)
  pub kept : AreSomeOf new.best.held (old.best.held ++ within (asked old) all)
  pub stand : StandFor old.best.order old.best.limit (wanted new) (wanted old ++ within (asked old) all)

-- the same of these rows
abbrev pub AddsRows : {R : Type 0} → List Row → Snapshot R → Snapshot R → Type 0
AddsRows rows old new = Adds (map found_at rows) old new

-- ---- all entries of a stream

-- beside what stood in parts these entries stand there now: each of them as often as here, and no other
pub record AddsParts {R : Type 0} (all : List Found) (old new : List (Part R)) : Type 0 where
  pub same : IsPermutation (found_among new) (found_among old ++ all)

-- the same of these rows
abbrev pub ListsRows : {R : Type 0} → List Row → List (Part R) → List (Part R) → Type 0
ListsRows rows old new = AddsParts (map found_at rows) old new

-- ---- rows of a snapshot

-- what stands in a snapshot is of these rows, none invented and none twice; what it keeps is of those in its
-- range; and what is wanted of it stands for all of those in its range
pub record HasRows {R : Type 0} (rows : List Row) (s : Snapshot R) : Type 0 where
  pub drawn : AreSomeOf (standing s) (map found_at rows)
  pub kept : AreSomeOf s.best.held (within (asked s) (map found_at rows))
  pub stand : StandFor s.best.order s.best.limit (wanted s) (within (asked s) (map found_at rows))

-- ---- rows of chunks

-- what a query finds of the rows of closed blocks, and of the chunks of a stream in memory, are their entries under the
-- name of the stream
pub record RowsAreFound : Type 0 where
  pub blocks : (s : StreamKey) (first index : ℕ) (bs : List (List Numbered)) → map found_at (block_rows s first index bs) ≡ map (found_of s.name) (in_blocks bs)
  pub memory : (s : StreamKey) (c : ChunksContents) → IsPermutation (map found_at (stream_state s c).rows) (map (found_of s.name) (entries_in_memory c))
