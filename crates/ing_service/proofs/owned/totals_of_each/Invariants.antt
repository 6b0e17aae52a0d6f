use Rattle.std.proofs.Common.{◌≡◌, map, take}
use Rattle.ing_service.specs.ByShards.{fronts_of}
use Rattle.ing_service.specs.Held.{shard_held}
use Rattle.ing_service.proofs.owned.totals_of_each.Given as goal

-- those of the first shards
abbrev pub invariant-loop-seat : goal.invariant-loop-seat
invariant-loop-seat g l = l.totals.items ≡ fronts_of (take l.seat-index (map (λ seat. shard_held seat.shard) l.seats))
