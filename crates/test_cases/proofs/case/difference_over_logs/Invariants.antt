use Rattle.std.proofs.Common.{◌≡◌, vec_len}
use Rattle.test_cases.proofs.case.difference_over_logs.Given as goal

-- a log and an end for each shard so far
abbrev pub invariant-loop-2 : goal.invariant-loop-2
invariant-loop-2 g l = record {
  logs : vec_len l.logs ≡ l.counter;
  finders : vec_len l.finders ≡ l.counter;
}
