-- How a run of channels ends that has no report (own).
use Rattle.std.specs.Prelude.{◌≡◌, ◌⊎◌, ℕ, List, ◌++◌, String, codes, decimal, string_bytes}
use Rattle.ing_lanes.specs.declared.fault.LanesFault.{LanesFault}
use Rattle.ing_lanes.specs.declared.fault.LanesFault.TheVariants.{NotOpened, NotClosed}
use Rattle.ing_lanes.specs.Reports.{close_refusal_of}
use Rattle.ing_lanes.specs.CloseRefusal.{CloseRefusal}
use Rattle.ing_lanes.specs.CloseRefusal.TheVariants as close
use Rattle.ing_lanes.specs.Mismatch.{Mismatch}
use Rattle.ing_lanes.specs.Unsettled.{Unsettled}
use Rattle.ing_lanes.specs.Unsettled.TheVariants.{Query, Differs}
use Rattle.ing_refusals.specs.declared.refusal.Refusal.{Refusal}
use Rattle.ing_lanes.specs.Ending.{Ending}
use Rattle.ing_lanes.specs.Ending.TheVariants as ending
use Rattle.std.specs.declared.alloc.Global.{Global}

-- what is told of an entry that differs: its shard, its tenant, its stream and its number
abbrev pub place_text : ℕ → Mismatch → List ℕ
place_text shard mismatch =
    codes ": shard " ++ (decimal shard ++ (codes ", tenant " ++ (string_bytes mismatch.tenant ++ (codes ", stream " ++ (string_bytes mismatch.stream ++ (codes ", number " ++ decimal mismatch.number))))))

-- it ends with this refusal, or memory ran out
abbrev pub Refuses : Refusal → Ending → Type 0
Refuses refusal e = (e ≡ ending.NotServed refusal) ⊎ (e ≡ ending.NoMemory)

-- where the entries of a shard are not settled: one that differs is told, unless memory runs out
abbrev pub IsEndingOfEntries : ℕ → Unsettled → Ending → Type 0
IsEndingOfEntries shard (Differs mismatch) e = (e ≡ ending.NoMemory) ⊎ ((place : String Global) × (e ≡ ending.Differs place) × (string_bytes place ≡ place_text shard mismatch))
IsEndingOfEntries shard (Query fault) e = Refuses (close_refusal_of (close.Unsettled shard (Query fault))) e

-- where an ingester was not closed
abbrev pub IsEndingOfClose : CloseRefusal → Ending → Type 0
IsEndingOfClose (close.Unsettled shard why) e = IsEndingOfEntries shard why e
IsEndingOfClose close.NoMemory e = e ≡ ending.NoMemory
IsEndingOfClose (close.StillOut missing) e = Refuses (close_refusal_of (close.StillOut missing)) e
IsEndingOfClose (close.Misplaced shard) e = Refuses (close_refusal_of (close.Misplaced shard)) e

-- where channels ended without a report
abbrev pub IsEndingOf : LanesFault → Ending → Type 0
IsEndingOf (NotOpened refusal) e = Refuses refusal e
IsEndingOf (NotClosed why) e = IsEndingOfClose why e
