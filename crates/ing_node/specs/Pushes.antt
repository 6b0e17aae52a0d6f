-- What a push through a lock tells (own; the verdicts are those of the Loki documentation: limits configuration, accepting
-- out-of-order writes).
use Rattle.std.specs.Prelude.{◌≡◌, ◌<◌, ◌≤◌, ℕ, List, filter, is_some, length}
use Rattle.std.specs.List.{AllZip}
use Rattle.ing_rows.specs.declared.entry.Entry.{Entry}
use Rattle.ing_rows.specs.declared.rules.Rules.{Rules}
use Rattle.ing_rows.specs.declared.verdict.Verdict.{Verdict}
use Rattle.ing_rows.specs.declared.verdict.Verdict.TheVariants.{Accepted, Duplicate, LineTooLong, TooFarBehind, TooManyStreams}
use Rattle.ing_rows.specs.Rows.{State, StreamKey}
use Rattle.ing_rows.specs.Steps.{verdicts_of}
use Rattle.ing_rows.specs.Verdicts.{accepted_number}
use Rattle.ing_begun.specs.NodeFault.{NodeFault}
use Rattle.ing_begun.specs.NodeFault.TheVariants.{NoMemory, CounterFull, TooManyEntries, Misplaced}

-- what a verdict tells of its entry, whatever stood in the shard: its line is too long exactly where it is longer than the limit, and
-- what is too far behind has a stamp below what is named
abbrev pub MayBeTold : Rules → Entry → Verdict → Type 0
MayBeTold rules e LineTooLong = rules.max_line_size < length e.line
MayBeTold rules e (TooFarBehind limit) = (length e.line ≤ rules.max_line_size) × (e.stamp < limit)
MayBeTold rules e (Accepted number) = length e.line ≤ rules.max_line_size
MayBeTold rules e Duplicate = length e.line ≤ rules.max_line_size
MayBeTold rules e (TooManyStreams live) = length e.line ≤ rules.max_line_size

-- one verdict for each entry
abbrev pub AreTold : Rules → List Entry → List Verdict → Type 0
AreTold rules = AllZip (MayBeTold rules)

-- The verdicts are those that the model gives in some state. Which state that was is not said: other pushes may come between.
abbrev pub AreJudged : Rules → StreamKey → ℕ → List Entry → List Verdict → Type 0
AreJudged rules s now entries verdicts = (old : State) × (verdicts ≡ verdicts_of rules s now entries old)

-- Why a push of so many entries to the shard at a place may be refused: there are more than its rules allow, and for no other reason
-- where there are; memory, and a shard that is misplaced, apart.
abbrev pub IsPushRefusal : Rules → ℕ → ℕ → NodeFault → Type 0
IsPushRefusal rules count place NoMemory = Unit {0}
IsPushRefusal rules count place CounterFull = count ≤ rules.max_entries_per_push
IsPushRefusal rules count place TooManyEntries = rules.max_entries_per_push < count
IsPushRefusal rules count place (Misplaced shard) = shard ≡ place

-- how many verdicts accept their entry
abbrev pub accepted_in : List Verdict → ℕ
accepted_in verdicts = length (filter (λ v. is_some (accepted_number v)) verdicts)
