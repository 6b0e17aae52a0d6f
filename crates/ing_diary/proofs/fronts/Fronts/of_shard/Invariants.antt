use Rattle.std.proofs.Common.{◌≡◌, map, take}
use Rattle.std.specs.Prelude.{All}
use Rattle.ing_diary.specs.Fronts.{stream_of}
use Rattle.ing_diary.proofs.FrontLaws.{Count}
use Rattle.ing_diary.proofs.fronts.Fronts.of_shard.Given as goal

-- the fronts of the streams so far
abbrev pub invariant-loop-number : goal.invariant-loop-number
invariant-loop-number g l = record {
  keys : map stream_of l.streams.items ≡ take l.number l.shard.listed;
  counts : All (Count l.shard.state.rows) l.streams.items;
}
