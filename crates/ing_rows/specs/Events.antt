-- The events of a shard and its replies, which steps they allow, and whole runs.
-- What names no section of the Loki documentation is own.
use Rattle.std.specs.Prelude.{◌≡◌, ℕ, ◌+◌, ◌-◌, ◌^◌, ◌<◌, ◌≤◌, Bool, true, false, ◌&&◌, ◌||◌, List, [], ◌∷◌, ◌++◌, filter, length, ◌==◌, nat_lt, nat_le, is_some, Option, Some, None}
use Rattle.ing_rows.specs.declared.entry.Entry.{Entry}
use Rattle.ing_rows.specs.declared.place.SealReason.{SealReason}
use Rattle.ing_rows.specs.declared.rules.Rules.{Rules}
use Rattle.ing_rows.specs.declared.verdict.Verdict.{Verdict}
use Rattle.ing_rows.specs.Rows.{StreamKey, Mark, State, IsSame, count_of, streams_of, chunk_starts}
use Rattle.ing_rows.specs.Steps.{Pushes, due_by, seal_of, forced, Sweeps, SealsAll, Claims, ClaimsNone, Finishes, GivesBack}
use Rattle.ing_rows.specs.Verdicts.{accepted_number}
use Rattle.ing_rows.specs.Kept.{Numbered}

-- times in nanoseconds; a flight by its number, a key by its bytes
pub data Event : Type 0 where
  Push : StreamKey → ℕ → List Entry → Event
  Sweep : ℕ → Event
  SealAll : Event
  Claim : StreamKey → Event
  Finish : StreamKey → ℕ → ℕ → List ℕ → Event
  GiveBack : ℕ → Event
  Look : Event

-- Judged: the verdict of each entry. Sealed: how many chunks were sealed. Claimed: the chunk's first number and its flight.
pub data Reply : Type 0 where
  Judged : List Verdict → Reply
  TooManyEntries : Reply
  CounterFull : Reply
  Sealed : ℕ → Reply
  Claimed : ℕ → ℕ → Reply
  NothingToClaim : Reply
  Finished : Reply
  GivenBack : Reply
  Looked : Reply

-- a counter would pass its last value: the rows, the streams that have a row, or the stream's chunks (own)
abbrev pub is_full : State → StreamKey → ℕ → Bool
is_full st s more =
    nat_lt (2 ^ 62) (length st.rows + more)
    || ((count_of st.rows s == 0) && nat_le (2 ^ 32 - 1) (length (streams_of st.rows)))
    || nat_lt (2 ^ 32 - 1) (length (chunk_starts s st.rows) + more)

-- how many chunks a reason for each mark seals
abbrev pub due_count : (Mark → Bool) → List Mark → ℕ
due_count is_due marks = length (filter is_due marks)

-- how many of the growing chunks have a reason
abbrev pub sealed_count : (Mark → Option SealReason) → List Mark → ℕ
sealed_count why marks = due_count (λ m. is_some (seal_of why m)) marks

-- From old, the shard may give this reply to the event and go on to new; rules gives each tenant's, by its bytes.
abbrev pub Step : (List ℕ → Rules) → State → Event → Reply → State → Type 0
Step rules old (Push s now es) TooManyEntries new = ((rules s.tenant).max_entries_per_push < length es) × IsSame new old
Step rules old (Push s now es) CounterFull new = (length es ≤ (rules s.tenant).max_entries_per_push) × (is_full old s (length es) ≡ true) × IsSame new old
Step rules old (Push s now es) (Judged vs) new = (length es ≤ (rules s.tenant).max_entries_per_push) × (is_full old s (length es) ≡ false) × Pushes (rules s.tenant) s now es vs old new
Step rules old (Sweep now) (Sealed n) new = (n ≡ sealed_count (due_by rules now old.rows) old.marks) × Sweeps rules now old new
Step rules old SealAll (Sealed n) new = (n ≡ sealed_count forced old.marks) × SealsAll old new
Step rules old (Claim s) (Claimed chunk f) new = Claims s chunk f old new
Step rules old (Claim s) NothingToClaim new = ClaimsNone s old new
Step rules old (Finish s chunk f key) Finished new = Finishes s chunk f key old new
Step rules old (GiveBack f) GivenBack new = GivesBack f old new
Step rules old Look Looked new = IsSame new old
-- no other reply is given
Step rules old _ _ new = ⊥

-- the shard may give these replies to these events, one step after another
abbrev pub Run : (List ℕ → Rules) → State → List (Event × Reply) → State → Type 0
Run rules old [] new = IsSame new old
Run rules old (step ∷ steps) new = (mid : State) × Step rules old step.0 step.1 mid × Run rules mid steps new

-- ---- what was accepted

-- the entry in front under its number, where it has one
abbrev pub with_accepted : StreamKey → Entry → Option ℕ → List Numbered → List Numbered
with_accepted s e None rest = rest
with_accepted s e (Some n) rest = record { stream = s; number = n; entry = e } ∷ rest

-- the entries of a push that were answered accepted, with their numbers
abbrev pub accepted_entries : StreamKey → List Entry → List Verdict → List Numbered
accepted_entries s [] vs = []
accepted_entries s (e ∷ es) [] = []
accepted_entries s (e ∷ es) (v ∷ vs) = with_accepted s e (accepted_number v) (accepted_entries s es vs)

abbrev pub accepted_by : Event → Reply → List Numbered
accepted_by (Push s now es) (Judged vs) = accepted_entries s es vs
accepted_by _ _ = []

-- all that was answered accepted, in order (own)
abbrev pub accepted_of : List (Event × Reply) → List Numbered
accepted_of [] = []
accepted_of (step ∷ steps) = accepted_by step.0 step.1 ++ accepted_of steps
