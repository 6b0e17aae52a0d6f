use Rattle.std.proofs.Common.{◌≡◌, ◌≤◌, ◌<◌, ◌+◌, ◌++◌, ℕ, Some, length, map, reverse, slice_get, vec_len}
use Rattle.std.specs.Vec.{vec_capacity}
use Rattle.ing_begun.specs.Closed.{closed_of}
use Rattle.ing_tally.specs.Books.{amount_of}
use Rattle.ing_tally.specs.declared.report.ShardReport.{ShardReport}
use Rattle.ing_node.specs.Closing.{AreComplete, shares_at}
use Rattle.ing_node.specs.Reports.{CountRowsFrom, IsGathered, recovered_at}
use Rattle.ing_node.proofs.closing.gather_all.Given as goal

-- the shards that are left are as they were, and the others are closed
abbrev pub invariant-loop-held : goal.invariant-loop-held
invariant-loop-held g l = record {
  pushing : vec_len l.pushing ≡ vec_len l.helds;
  stored : vec_len l.stored ≡ vec_len l.helds;
  reports : vec_len l.reports ≡ vec_len l.initial.reports;
  left : vec_len l.helds ≤ vec_len l.reports;
  same_pushing : (i : ℕ) → i < vec_len l.helds → shares_at i l.pushing.items ≡ shares_at i l.initial.pushing.items;
  same_stored : (i : ℕ) → i < vec_len l.helds → shares_at i l.stored.items ≡ shares_at i l.initial.stored.items;
  complete : AreComplete (λ held. held.shard.memory) (λ i. length (shares_at i l.initial.pushing.items))
      (λ i. length (shares_at i l.initial.stored.items)) l.helds.items;
  closed : (i : ℕ) (report : ShardReport) → vec_len l.helds ≤ i → slice_get l.reports.items i ≡ Some report
      → IsGathered (recovered_at i l.initial.reports.items) (amount_of (shares_at i l.initial.pushing.items)) (amount_of (shares_at i l.initial.stored.items)) report;
  before : (i : ℕ) → i < vec_len l.helds → slice_get l.reports.items i ≡ slice_get l.initial.reports.items i;
  same_helds : (i : ℕ) → i < vec_len l.helds → slice_get l.helds.items i ≡ slice_get l.initial.helds.items i;
  rows : CountRowsFrom (vec_len l.helds) (λ held. held.shard.memory.state.rows) l.initial.helds.items l.reports.items;
  room : vec_len l.helds + vec_len l.shards ≤ vec_capacity l.shards;
  handed : map (λ held. closed_of held.shard.memory) l.helds.items ++ reverse l.shards.items ≡ map (λ held. closed_of held.shard.memory) l.initial.helds.items;
}

abbrev pub decreases-loop-held : goal.decreases-loop-held
decreases-loop-held g l = vec_len l.helds
