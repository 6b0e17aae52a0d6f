use Rattle.std.proofs.Common.{◌≡◌, ◌++◌, replicate}
use Rattle.ing_shard.proofs.streams.add_ops.Given as goal

abbrev pub invariant-loop : goal.invariant-loop
invariant-loop l = l.ops.items ≡ l.initial.ops.items ++ replicate l.counter l.op
