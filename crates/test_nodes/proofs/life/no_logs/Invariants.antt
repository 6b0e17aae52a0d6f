use Rattle.std.proofs.Common.{◌≡◌, vec_len}
use Rattle.test_nodes.proofs.life.no_logs.Given as goal

abbrev pub invariant-loop : goal.invariant-loop
invariant-loop l = record { all : vec_len l.logs ≡ l.counter }
