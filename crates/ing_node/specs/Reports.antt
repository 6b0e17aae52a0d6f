-- What a closing tells of a shard (own).
use Rattle.std.specs.Prelude.{◌≡◌, ◌+◌, ◌<◌, ◌≤◌, ℕ, List, Option, Some, None, Err, length, slice_get}
use Rattle.ing_refusals.specs.declared.refusal.Refusal.{Refusal}
use Rattle.ing_refusals.specs.declared.refusal.Refusal.TheVariants as refusal
use Rattle.ing_rows.specs.Rows.{Row}
use Rattle.ing_begun.specs.Contents.{flying_count, stored_count}
use Rattle.ing_flush.specs.Tallies.{amount_at}
use Rattle.ing_node.specs.Earlier.{EarlierState}
use Rattle.ing_diary.specs.Faults.{AreCounted, IsNoBadObject, unsettled_refusal_of}
use Rattle.ing_tally.specs.declared.report.ShardReport.{ShardReport}
use Rattle.ing_node.specs.declared.report.CloseRefusal.{CloseRefusal}
use Rattle.ing_node.specs.declared.report.CloseRefusal.TheVariants.{NoMemory, StillOut, Misplaced, Unsettled}

-- Of so many that had been there before, and so many of them stored: as many entries were accepted as the pushers were told, as many are
-- stored as the flushers counted besides, and each of all is stored or kept.
pub record IsClosed (recovered restored told counted : ℕ) (r : ShardReport) : Type 0 where
  pub accepted : r.accepted ≡ told
  pub stored : r.stored ≡ restored + counted
  pub recovered_are : r.recovered ≡ recovered
  pub all : r.accepted + r.recovered ≡ r.stored + r.kept

-- shares are said to be missing only where one is
abbrev pub HasReason : CloseRefusal → Type 0
HasReason NoMemory = Unit {0}
HasReason (StillOut missing) = 0 < missing.accepted + missing.flight + missing.stored
HasReason (Misplaced shard) = Unit {0}
HasReason (Unsettled shard why) = Unit {0}

-- the entries of a shard are said not to be settled
abbrev pub IsUnsettled : CloseRefusal → Type 0
IsUnsettled (Unsettled shard why) = Unit {0}
IsUnsettled _ = ⊥

-- no object is said to be bad
abbrev pub IsNoBadClose : CloseRefusal → Type 0
IsNoBadClose (Unsettled shard why) = IsNoBadObject why
IsNoBadClose _ = Unit {0}

-- the end's count of failures before and after: a fault of the store comes only where the end has failed, and else it stays
abbrev pub IsCausedClose : ℕ → ℕ → CloseRefusal → Type 0
IsCausedClose before after (Unsettled shard why) = AreCounted before after (Err why)
IsCausedClose before after _ = after ≡ before

-- It tells of as many entries as there are rows, of as many of them stored, and none is in flight.
pub record CountsRows (rows : List Row) (r : ShardReport) : Type 0 where
  pub all : r.accepted + r.recovered ≡ length rows
  pub stored : r.stored ≡ stored_count rows
  pub landed : flying_count rows ≡ 0

-- each from a place on does, of the rows of the shard at its place, which are read off what stands there
abbrev pub CountRowsFrom : {H : Type 0} → ℕ → (H → List Row) → List H → List ShardReport → Type 0
CountRowsFrom {H = H} from rows_in shards reports =
    (i : ℕ) (shard : H) (report : ShardReport) → from ≤ i
    → slice_get shards i ≡ Some shard → slice_get reports i ≡ Some report → CountsRows (rows_in shard) report

-- each does
abbrev pub CountRows : {H : Type 0} → (H → List Row) → List H → List ShardReport → Type 0
CountRows {H = H} rows_in shards reports =
    (i : ℕ) (shard : H) (report : ShardReport)
    → slice_get shards i ≡ Some shard → slice_get reports i ≡ Some report → CountsRows (rows_in shard) report

-- each shard is, with what it began with, what its pushers were told and what its flushers counted
abbrev pub AreClosed : EarlierState → (ℕ → ℕ) → (ℕ → ℕ) → List ShardReport → Type 0
AreClosed earlier told counted reports =
    (i : ℕ) (report : ShardReport) → slice_get reports i ≡ Some report → IsClosed (amount_at i earlier.told) (amount_at i earlier.stored) (told i) (counted i) report

-- ---- for private clauses

-- All shares of the accepted entries tell so many, of which so many had been there before, and all shares of the stored ones so many.
pub record IsGathered (recovered all_accepted all_stored : ℕ) (r : ShardReport) : Type 0 where
  pub accepted : r.accepted + recovered ≡ all_accepted
  pub stored : r.stored ≡ all_stored
  pub recovered_are : r.recovered ≡ recovered
  pub all : r.accepted + r.recovered ≡ r.stored + r.kept

-- how many a report says had been there before
abbrev pub recovered_in : Option ShardReport → ℕ
recovered_in None = 0
recovered_in (Some r) = r.recovered

abbrev pub recovered_at : ℕ → List ShardReport → ℕ
recovered_at i reports = recovered_in (slice_get reports i)

-- each is, with what the reports before said had been there
abbrev pub AreGathered : List ShardReport → (ℕ → ℕ) → (ℕ → ℕ) → List ShardReport → Type 0
AreGathered before all_accepted all_stored reports =
    (i : ℕ) (report : ShardReport) → slice_get reports i ≡ Some report → IsGathered (recovered_at i before) (all_accepted i) (all_stored i) report

-- no more had been there before than all shares tell
abbrev pub AreWithin : (ℕ → ℕ) → List ShardReport → Type 0
AreWithin all_accepted before = (i : ℕ) → i < length before → recovered_at i before ≤ all_accepted i

-- the refusal of the same name
abbrev pub close_refusal_of : CloseRefusal → Refusal
close_refusal_of NoMemory = refusal.NoMemory
close_refusal_of (StillOut missing) = refusal.StillOut
close_refusal_of (Misplaced shard) = refusal.Misplaced
close_refusal_of (Unsettled shard why) = unsettled_refusal_of why
