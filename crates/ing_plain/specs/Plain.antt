-- What the lists of the slow program stand for, and what holds of them.
-- What names no section of the Loki documentation is own.
use Rattle.std.specs.Prelude.{◌≡◌, ℕ, ◌+◌, ◌<◌, ◌≤◌, min, Bool, false, List, [], ◌∷◌, reverse, length, All, Option, Some, None, vec_len, vec_capacity}
use Rattle.ing_rows.specs.declared.place.SealReason.{SealReason}
use Rattle.ing_plain.specs.declared.plain.cause.Cause.{Cause}
use Rattle.ing_plain.specs.declared.plain.cause.Cause.TheVariants.{Due, Command}
use Rattle.ing_plain.specs.declared.plain.measure.Kind.{Kind}
use Rattle.ing_plain.specs.declared.plain.measure.Kind.TheVariants.{Head, Block, Flight, Stored}
use Rattle.ing_rows.specs.declared.place.Place.{Place}
use Rattle.ing_plain.specs.declared.plain.table.Table.{Table}
use Rattle.ing_plain.specs.declared.plain.table.Candidate.{Candidate}
use Rattle.ing_rows.specs.Rows.{StreamKey, Row, Mark, State, is_head, is_block, is_in_flight, is_stored, count_of}
use Rattle.ing_rows.specs.Steps.{due_of, forced}
use Rattle.ing_rows.specs.Sound.{IsSound}
use Rattle.ing_rows.specs.Turns.{IsMarked}

-- rows and marks, the newest first
abbrev pub state_of : Table → State
state_of table = record { rows = reverse table.rows.items; marks = reverse table.marks.items }

-- why the chunk of a mark is sealed for the cause
abbrev pub reason_for : Cause → List Row → Mark → Option SealReason
reason_for (Due rules now) rows m = due_of rules now rows m
reason_for Command rows m = forced m

-- the test of a kind of place
abbrev pub at_kind : Kind → Place → Bool
at_kind Head = is_head
at_kind Block = is_block
at_kind Flight = is_in_flight
at_kind Stored = is_stored

-- the lower of a stamp and another, if there is one
abbrev pub least_with : ℕ → Option ℕ → ℕ
least_with stamp None = stamp
least_with stamp (Some other) = min stamp other

-- each row's number is how many rows its stream had before it
abbrev pub AreCounted : List Row → Type 0
AreCounted [] = Unit {0}
AreCounted (r ∷ rows) = (r.number ≡ count_of rows r.stream) × AreCounted rows

-- a state to which pushes and seals lead
pub record IsPushed (st : State) : Type 0 where
  pub counted : AreCounted st.rows
  pub sound : IsSound st
  pub marked : IsMarked st
  pub unstored : All (λ r. is_stored r.place ≡ false) st.rows
  pub blocks : All (λ r. r.block < length st.rows) st.rows

-- the keys that a row and a mark of the entry would take are those of the stream
abbrev pub IsFor : StreamKey → Candidate → Type 0
IsFor s candidate = (candidate.of_row ≡ s) × (candidate.of_mark ≡ s)

-- so many rows and marks can be added without memory
pub record HasRoom (more : ℕ) (table : Table) : Type 0 where
  pub rows : vec_len table.rows + more ≤ vec_capacity table.rows
  pub marks : vec_len table.marks + more ≤ vec_capacity table.marks

-- at most one row and one mark were added, in the room that was there
pub record GrowsByOne (old new : Table) : Type 0 where
  pub rows : vec_len new.rows ≤ vec_len old.rows + 1
  pub rows_room : vec_capacity old.rows ≤ vec_capacity new.rows
  pub marks : vec_len new.marks ≤ vec_len old.marks + 1
  pub marks_room : vec_capacity old.marks ≤ vec_capacity new.marks

-- as many rows and marks, and as much room
pub record IsAsLarge (old new : Table) : Type 0 where
  pub rows : vec_len new.rows ≡ vec_len old.rows
  pub rows_room : vec_capacity new.rows ≡ vec_capacity old.rows
  pub marks : vec_len new.marks ≡ vec_len old.marks
  pub marks_room : vec_capacity new.marks ≡ vec_capacity old.marks
