-- What the events of a shard do to its state, one case each.
-- What names no section of the Loki documentation is own.
use Rattle.std.specs.Prelude.{◌≡◌, ◌≢◌, ℕ, ◌+◌, ◌-◌, ◌≤◌, max, min, Bool, true, false, not, ◌&&◌, List, [], ◌∷◌, map, filter, find, All, Any, Contains, ◌==◌, nat_lt, nat_le, if◌then◌else◌, is_none, is_some, Option, Some, None}
use Rattle.std.specs.List.{list_any}
use Rattle.std.specs.Option.{option_map, unwrap_or}
use Rattle.ing_rows.specs.declared.entry.Entry.{Entry}
use Rattle.ing_rows.specs.declared.place.Place.{Place}
use Rattle.ing_rows.specs.declared.place.Place.TheVariants.{Head, Block, Flight, Stored}
use Rattle.ing_rows.specs.declared.place.SealReason.{SealReason}
use Rattle.ing_rows.specs.declared.place.SealReason.TheVariants.{Full, Idle, MaxAge, Forced}
use Rattle.ing_rows.specs.declared.rules.Rules.{Rules}
use Rattle.ing_rows.specs.declared.verdict.Verdict.{Verdict}
use Rattle.ing_rows.specs.Rows.{StreamKey, Row, Mark, State, IsSame, same_stream, is_head, is_block, is_flight, is_of_chunk, rows_of_chunk, size_of_rows, greatest_stamp, count_of}
use Rattle.ing_rows.specs.Verdicts.{verdict_of, accepted_number}

-- the rows that pass the test go to the place, and no others
abbrev pub moved : (Row → Bool) → Place → List Row → List Row
moved test place rows = map (λ r. if test r then record r { place = place } else r) rows

-- ---- one entry of a push

-- the mark is that of the stream's growing chunk
abbrev pub is_growing : StreamKey → Mark → Bool
is_growing s m = same_stream m.stream s && is_none m.reason

-- the mark is that of this chunk
abbrev pub is_mark_of : StreamKey → ℕ → Mark → Bool
is_mark_of s chunk m = same_stream m.stream s && (m.chunk == chunk)

-- how many closed blocks a chunk has
abbrev pub blocks_of : List Row → ℕ
blocks_of [] = 0
blocks_of (r ∷ rows) = if is_block r.place then max (r.block + 1) (blocks_of rows) else blocks_of rows

-- the chunk that the entry with this number goes to: the growing one, or a new one that begins with it
abbrev pub chunk_at : StreamKey → ℕ → List Mark → ℕ
chunk_at s n marks = unwrap_or (option_map (λ m. m.chunk) (find (is_growing s) marks)) n

-- the growing chunk is updated now, or a new one grows from this number on
abbrev pub marks_at : StreamKey → ℕ → ℕ → List Mark → List Mark
marks_at s n now marks =
    if list_any (is_growing s) marks then map (λ m. if is_growing s m then record m { last_update = now } else m) marks
    else record { stream = s; chunk = n; last_update = now; reason = None } ∷ marks

-- one more entry, in the head, under this number
abbrev pub added_as : ℕ → State → StreamKey → Entry → ℕ → State
added_as n old s e now =
    let chunk = chunk_at s n old.marks in
    record {
      rows = record { stream = s; number = n; entry = e; chunk = chunk; block = blocks_of (rows_of_chunk s chunk old.rows); place = Head } ∷ old.rows;
      marks = marks_at s n now old.marks;
    }

-- where the next accepted entry of the stream goes
abbrev pub chunk_for : State → StreamKey → ℕ
chunk_for old s = chunk_at s (count_of old.rows s) old.marks

-- the marks with which it grows
abbrev pub marks_for : State → StreamKey → ℕ → List Mark
marks_for old s now = marks_at s (count_of old.rows s) now old.marks

-- one more entry: its number is how many the stream has had
abbrev pub added : State → StreamKey → Entry → ℕ → State
added old s e now = added_as (count_of old.rows s) old s e now

-- a row in the head of the chunk
abbrev pub in_head : StreamKey → ℕ → Row → Bool
in_head s chunk r = is_of_chunk s chunk r && is_head r.place

-- a head that has reached the block size is closed (Loki documentation: ingester configuration, chunk_block_size)
abbrev pub cut : Rules → StreamKey → ℕ → State → State
cut rules s chunk st =
    if nat_le rules.chunk_block_size (size_of_rows (filter (in_head s chunk) st.rows)) then record st { rows = moved (in_head s chunk) Block st.rows } else st

-- a chunk is sealed for a reason: its head is closed first
abbrev pub sealed : SealReason → StreamKey → ℕ → State → State
sealed reason s chunk st =
    record {
      rows = moved (in_head s chunk) Block st.rows;
      marks = map (λ m. if is_mark_of s chunk m then record m { reason = Some reason } else m) st.marks;
    }

-- a chunk that has reached the target size is full (Loki documentation: ingester configuration, chunk_target_size; uncompressed: own)
abbrev pub filled : Rules → StreamKey → ℕ → State → State
filled rules s chunk st =
    if nat_le rules.chunk_target_size (size_of_rows (rows_of_chunk s chunk st.rows)) then sealed Full s chunk st else st

-- the state after an acceptance under this number
abbrev pub accepted_as : ℕ → Rules → StreamKey → Entry → ℕ → State → State
accepted_as n rules s e now old = let chunk = chunk_at s n old.marks in filled rules s chunk (cut rules s chunk (added_as n old s e now))

-- the state after an acceptance
abbrev pub accepted : Rules → StreamKey → Entry → ℕ → State → State
accepted rules s e now old = accepted_as (count_of old.rows s) rules s e now old

-- the state after these entries are accepted one after another, the first under this number
abbrev pub accepted_in_turn : ℕ → Rules → StreamKey → ℕ → List Entry → State → State
accepted_in_turn n rules s now [] st = st
accepted_in_turn n rules s now (e ∷ es) st = accepted_in_turn (n + 1) rules s now es (accepted_as n rules s e now st)

-- the state after an entry with this verdict
abbrev pub after_entry : Rules → StreamKey → Entry → ℕ → Verdict → State → State
after_entry rules s e now v old = if is_some (accepted_number v) then accepted rules s e now old else old

-- one entry of a push is judged and placed
pub record PushesEntry (rules : Rules) (s : StreamKey) (now : ℕ) (e : Entry) (v : Verdict) (old new : State) : Type 0 where
  pub judged : v ≡ verdict_of old.rows rules s e
  pub placed : IsSame new (after_entry rules s e now v old)

-- ---- a whole push

-- the entries one after another, each judged in the state that the ones before it left
abbrev pub Pushes : Rules → StreamKey → ℕ → List Entry → List Verdict → State → State → Type 0
Pushes rules s now [] [] old new = IsSame new old
Pushes rules s now (e ∷ es) (v ∷ vs) old new = (mid : State) × PushesEntry rules s now e v old mid × Pushes rules s now es vs mid new
Pushes rules s now [] (v ∷ vs) old new = ⊥
Pushes rules s now (e ∷ es) [] old new = ⊥

-- the verdicts of a push, computed
abbrev pub verdicts_of : Rules → StreamKey → ℕ → List Entry → State → List Verdict
verdicts_of rules s now [] st = []
verdicts_of rules s now (e ∷ es) st = let v = verdict_of st.rows rules s e in v ∷ verdicts_of rules s now es (after_entry rules s e now v st)

-- the state after a push, computed
abbrev pub after_push : Rules → StreamKey → ℕ → List Entry → State → State
after_push rules s now [] st = st
after_push rules s now (e ∷ es) st = after_push rules s now es (after_entry rules s e now (verdict_of st.rows rules s e) st)

-- ---- sweeping and sealing

-- the least stamp among rows, and 0 where there is none
abbrev pub least_stamp : List Row → ℕ
least_stamp [] = 0
least_stamp (r ∷ []) = r.entry.stamp
least_stamp (r ∷ q ∷ rows) = min r.entry.stamp (least_stamp (q ∷ rows))

-- Why a growing chunk is due: nothing came for longer than the idle period, or its stamps lie further apart than the
-- maximum age (Loki documentation: ingester configuration, chunk_idle_period and max_chunk_age).
abbrev pub due_of : Rules → ℕ → List Row → Mark → Option SealReason
due_of rules now rows m =
    let chunk = rows_of_chunk m.stream m.chunk rows in
    if nat_lt rules.chunk_idle_period (now - m.last_update) then Some Idle
    else if nat_lt rules.max_chunk_age (greatest_stamp chunk - least_stamp chunk) then Some MaxAge
    else None

-- the reason that a growing chunk is given, if there is one
abbrev pub seal_of : (Mark → Option SealReason) → Mark → Option SealReason
seal_of why m = if is_none m.reason then why m else None

-- the chunk of a row is sealed now
abbrev pub is_sealed_now : (Mark → Option SealReason) → List Mark → Row → Bool
is_sealed_now why [] r = false
is_sealed_now why (m ∷ ms) r = if is_of_chunk m.stream m.chunk r then is_some (seal_of why m) else is_sealed_now why ms r

-- the mark with the reason, where there is one
abbrev pub given : Option SealReason → Mark → Mark
given None m = m
given (Some reason) m = record m { reason = Some reason }

-- the mark with the reason that it is given
abbrev pub seal_mark : (Mark → Option SealReason) → Mark → Mark
seal_mark why m = given (seal_of why m) m

-- the state after each growing chunk that has a reason is sealed
abbrev pub sealed_by : (Mark → Option SealReason) → State → State
sealed_by why st =
    record {
      rows = moved (λ r. is_head r.place && is_sealed_now why st.marks r) Block st.rows;
      marks = map (seal_mark why) st.marks;
    }

-- each growing chunk that has a reason is sealed
abbrev pub Seals : (Mark → Option SealReason) → State → State → Type 0
Seals why old new = IsSame new (sealed_by why old)

-- why the chunk of a mark is due, by the rules of its tenant, which are told by the tenants' bytes
abbrev pub due_by : (List ℕ → Rules) → ℕ → List Row → Mark → Option SealReason
due_by rules now rows m = due_of (rules m.stream.tenant) now rows m

-- the state after each growing chunk that is due is sealed
abbrev pub swept : (List ℕ → Rules) → ℕ → State → State
swept rules now st = sealed_by (due_by rules now st.rows) st

abbrev pub Sweeps : (List ℕ → Rules) → ℕ → State → State → Type 0
Sweeps rules now old new = IsSame new (swept rules now old)

-- each growing chunk is sealed by force
abbrev pub forced : Mark → Option SealReason
forced m = Some Forced

abbrev pub SealsAll : State → State → Type 0
SealsAll old new = Seals forced old new

-- ---- flushing

-- a sealed chunk of the stream whose rows are in closed blocks
abbrev pub IsClaimable : State → StreamKey → ℕ → Type 0
IsClaimable st s chunk =
    ((m : Mark) × Contains st.marks m × (m.stream ≡ s) × (m.chunk ≡ chunk) × (is_some m.reason ≡ true))
    × All (λ r. is_block r.place ≡ true) (rows_of_chunk s chunk st.rows)

-- the oldest claimable chunk goes into flight, under any number that no row has (own)
pub record Claims (s : StreamKey) (chunk f : ℕ) (old new : State) : Type 0 where
  pub claimable : IsClaimable old s chunk
  pub oldest : (other : ℕ) → IsClaimable old s other → chunk ≤ other
  pub unused : All (λ r. is_flight f r.place ≡ false) old.rows
  pub moves : IsSame new (record old { rows = moved (is_of_chunk s chunk) (Flight f) old.rows })

-- there is no chunk to claim
pub record ClaimsNone (s : StreamKey) (old new : State) : Type 0 where
  pub none : (chunk : ℕ) → IsClaimable old s chunk → ⊥
  pub same : IsSame new old

-- the chunk in flight is stored under its key, and has no mark any more (own)
pub record Finishes (s : StreamKey) (chunk f : ℕ) (key : List ℕ) (old new : State) : Type 0 where
  pub flies : All (λ r. is_flight f r.place ≡ true) (rows_of_chunk s chunk old.rows)
  pub some : rows_of_chunk s chunk old.rows ≢ []
  pub stores : IsSame new (record { rows = moved (λ r. is_flight f r.place) (Stored key) old.rows; marks = filter (λ m. not (is_mark_of s chunk m)) old.marks })

-- a chunk that is in flight waits in its blocks again (own)
pub record GivesBack (f : ℕ) (old new : State) : Type 0 where
  pub flies : Any (λ r. is_flight f r.place ≡ true) old.rows
  pub waits : IsSame new (record old { rows = moved (λ r. is_flight f r.place) Block old.rows })
