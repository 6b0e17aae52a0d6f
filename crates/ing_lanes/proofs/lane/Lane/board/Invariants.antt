use Rattle.std.proofs.Common.{◌≡◌, ℕ, vec_len}
use Rattle.std.specs.Prelude.{Some, slice_get}
use Rattle.ing_tally.specs.declared.counts.Counts.{Counts}
use Rattle.ing_node.specs.Boards.{IsNoLess, known_at}
use Rattle.ing_lanes.specs.ByLane.{AreOrdered}
use Rattle.ing_lanes.proofs.lane.Lane.board.Given as goal

-- the shards so far are read
abbrev pub invariant-loop-shard : goal.invariant-loop-shard
invariant-loop-shard g l = record {
  all : vec_len l.all ≡ l.shard;
  ordered : AreOrdered l.all.items;
  later : (i : ℕ) → IsNoLess (known_at i l.fn.self.board) (known_at i l.self.board);
  known : (i : ℕ) (counts : Counts) → slice_get l.all.items i ≡ Some counts → known_at i l.self.board ≡ counts;
  pusher : l.self.pusher ≡ l.fn.self.pusher;
  workers : l.self.workers ≡ l.fn.self.workers;
}
