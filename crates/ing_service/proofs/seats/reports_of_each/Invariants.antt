use Rattle.std.proofs.Common.{◌≡◌, map, take}
use Rattle.ing_service.specs.ByShards.{reports_of}
use Rattle.ing_service.specs.Held.{shard_held}
use Rattle.ing_service.proofs.seats.reports_of_each.Given as goal

-- those of the first shards
abbrev pub invariant-loop-place : goal.invariant-loop-place
invariant-loop-place g l = l.reports.items ≡ reports_of (take l.place l.recovered) (take l.place (map (λ seat. shard_held seat.shard) l.seats))
