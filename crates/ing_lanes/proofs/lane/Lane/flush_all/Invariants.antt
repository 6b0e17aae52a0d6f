use Rattle.std.proofs.Common.{◌≡◌}
use Rattle.ing_lanes.specs.Counted.{RisesBy, counted_by}
use Rattle.ing_lanes.proofs.lane.Lane.flush_all.Given as goal

abbrev pub invariant-loop : goal.invariant-loop
invariant-loop g l = record {
  rises : RisesBy l.round.stored (counted_by l.fn.self.workers.items) (counted_by l.self.workers.items);
  pusher : l.self.pusher ≡ l.fn.self.pusher;
  board : l.self.board ≡ l.fn.self.board;
}
