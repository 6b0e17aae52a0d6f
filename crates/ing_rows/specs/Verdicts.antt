-- How an entry is judged.
-- What names no section of the Loki documentation is own.
use Rattle.std.specs.Prelude.{ℕ, ◌-◌, ◌/◌, Bool, false, not, ◌&&◌, List, length, bytes_eq, ◌==◌, nat_lt, nat_le, if◌then◌else◌, Option, Some, None}
use Rattle.ing_rows.specs.declared.entry.Entry.{Entry}
use Rattle.ing_rows.specs.declared.rules.Rules.{Rules}
use Rattle.ing_rows.specs.declared.verdict.Verdict.{Verdict}
use Rattle.ing_rows.specs.declared.verdict.Verdict.TheVariants.{Accepted, Duplicate, LineTooLong, TooFarBehind, TooManyStreams}
use Rattle.ing_rows.specs.Facts.{Facts, facts_of}
use Rattle.ing_rows.specs.Rows.{StreamKey, Row}

-- The oldest stamp that is taken beside this greatest one: half of the maximum chunk age behind it, the half rounded
-- down, and not below 0 (Loki documentation: accepting out-of-order writes).
abbrev pub window_limit : ℕ → ℕ → ℕ
window_limit highest max_age = highest - max_age / 2

-- two entries have one stamp and one line
abbrev pub is_same : Entry → Entry → Bool
is_same a b = (a.stamp == b.stamp) && bytes_eq a.line b.line

-- the entry is this one, where there is one
abbrev pub is_entry : Entry → Option Entry → Bool
is_entry e None = false
is_entry e (Some other) = is_same other e

-- The first case that holds (Loki documentation: limits configuration, accepting out-of-order writes; the order of the
-- cases, and judging a duplicate against the last accepted entry alone, are own).
abbrev pub verdict_by : Rules → Facts → Entry → Verdict
verdict_by rules facts e =
    let limit = window_limit facts.greatest rules.max_chunk_age in
    if nat_lt rules.max_line_size (length e.line) then LineTooLong
    else if nat_lt 0 facts.count && nat_lt e.stamp limit then TooFarBehind limit
    else if is_entry e facts.last then Duplicate
    else if not facts.is_live && nat_le rules.max_streams_per_tenant facts.live then TooManyStreams facts.live
    else Accepted facts.count

-- the verdict on an entry after these rows
abbrev pub verdict_of : List Row → Rules → StreamKey → Entry → Verdict
verdict_of rows rules s e = verdict_by rules (facts_of rows s) e

-- the number under which the entry is kept
abbrev pub accepted_number : Verdict → Option ℕ
accepted_number (Accepted n) = Some n
accepted_number _ = None
