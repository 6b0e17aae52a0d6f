-- Why the entries of a shard are not settled with what was noted (own).
use Rattle.std.specs.Prelude.{◌≡◌, ℕ, List, map, Result, Ok, Err, string_bytes}
use Rattle.ing_refusals.specs.declared.refusal.Refusal.{Refusal}
use Rattle.ing_refusals.specs.declared.refusal.Refusal.TheVariants as refusal
use Rattle.ing_query.specs.Fetched.{Counts, NotBad}
use Rattle.ing_query.specs.QueryFaults.{query_refusal_of}
use Rattle.ing_rows.specs.Rows.{Row, StreamKey}
use Rattle.ing_diary.specs.Notes.{IsUnlike, Note, note_of}
use Rattle.ing_diary.specs.declared.fault.Unsettled.{Unsettled}
use Rattle.ing_diary.specs.declared.fault.Unsettled.TheVariants.{Query, Differs}
use Rattle.ing_diary.specs.declared.fault.Mismatch.{Mismatch}

-- the end's count of failures before and after: it stays where all is settled and where an entry differs, and a fault of the store
-- comes only where the end has failed
abbrev pub AreCounted : ℕ → ℕ → Result Unit Unsettled → Type 0
AreCounted before after (Ok _) = after ≡ before
AreCounted before after (Err (Query fault)) = Counts before after fault
AreCounted before after (Err (Differs mismatch)) = after ≡ before

-- it is no bad object
abbrev pub IsNoBadObject : Unsettled → Type 0
IsNoBadObject (Query fault) = NotBad fault
IsNoBadObject (Differs mismatch) = Unit {0}

-- the stream that it names
abbrev pub stream_in : Mismatch → StreamKey
stream_in mismatch = record { tenant = string_bytes mismatch.tenant; name = string_bytes mismatch.stream }

-- what is named stands among the rows or the notes, and not exactly once and alike in both
abbrev pub NamesOther : List Row → List Note → Unsettled → Type 0
NamesOther rows notes (Query fault) = Unit {0}
NamesOther rows notes (Differs mismatch) = IsUnlike (stream_in mismatch) mismatch.number (map note_of rows) notes

-- which refusal it is
abbrev pub unsettled_refusal_of : Unsettled → Refusal
unsettled_refusal_of (Query fault) = query_refusal_of fault
unsettled_refusal_of (Differs mismatch) = refusal.Mismatch
