use Rattle.std.proofs.Common.{◌≡◌, vec_len}
use Rattle.ing_lanes.proofs.lane.Lane.checkpoint.Given as goal

abbrev pub invariant-loop-shard : goal.invariant-loop-shard
invariant-loop-shard g l = record { all : vec_len l.all ≡ l.shard }
