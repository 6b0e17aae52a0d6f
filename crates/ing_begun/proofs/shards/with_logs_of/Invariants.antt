use Rattle.std.proofs.Common.{◌≡◌, ◌+◌, ◌≤◌, vec_len}
use Rattle.std.specs.Vec.{vec_capacity}
use Rattle.ing_begun.proofs.shards.with_logs_of.Given as goal

abbrev pub invariant-loop-begun : goal.invariant-loop-begun
invariant-loop-begun g l = record {
  count : vec_len l.logs + vec_len l.last_first ≡ vec_len l.initial.logs + vec_len l.initial.last_first;
  room : vec_len l.logs + vec_len l.last_first ≤ vec_capacity l.logs;
}

abbrev pub decreases-loop-begun : goal.decreases-loop-begun
decreases-loop-begun g l = vec_len l.last_first
