use Rattle.std.proofs.Common.{◌≤◌, ◌-◌, length, vec_len}
use Rattle.std.specs.Vec.{vec_capacity}
use Rattle.test_nodes.proofs.life.hands_of.Given as goal

abbrev pub invariant-loop-alloc : goal.invariant-loop-alloc
invariant-loop-alloc g l = record {
  few : vec_len l.hands ≤ length l.plans;
  room : length l.plans ≤ vec_capacity l.hands;
}

abbrev pub decreases-loop-alloc : goal.decreases-loop-alloc
decreases-loop-alloc g l = length l.plans - vec_len l.hands
