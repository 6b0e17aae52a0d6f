use Rattle.std.proofs.Common.{◌≡◌, ◌≤◌, map, replicate, vec_len}
use Rattle.std.specs.Vec.{vec_capacity}
use Rattle.ing_durable.specs.Kept.{whose}
use Rattle.ing_service.specs.Held.{new_shard, shard_held, whose_from}
use Rattle.ing_service.proofs.runs.new_seats.Given as goal

-- the first shards
abbrev pub invariant-loop-number : goal.invariant-loop-number
invariant-loop-number g l = record {
  shards : map (λ seat. whose seat.shard.memory) l.seats.items ≡ whose_from l.settings 0 l.number;
  held : map (λ seat. shard_held seat.shard) l.seats.items ≡ replicate l.number new_shard;
  count : vec_len l.seats ≡ l.number;
  room : l.settings.shards ≤ vec_capacity l.seats;
}
