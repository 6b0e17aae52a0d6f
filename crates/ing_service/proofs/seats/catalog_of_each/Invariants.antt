use Rattle.std.proofs.Common.{[], map, take}
use Rattle.ing_durable.specs.Catalog.{AddsCatalog, asked_view}
use Rattle.ing_service.specs.ByShards.{rows_of}
use Rattle.ing_service.specs.Held.{shard_held}
use Rattle.ing_service.proofs.seats.catalog_of_each.Given as goal

-- what the streams of the first shards tell
abbrev pub invariant-loop-seat : goal.invariant-loop-seat
invariant-loop-seat g l = AddsCatalog (asked_view l.asked) (rows_of (take l.seat-index (map (λ seat. shard_held seat.shard) l.seats))) [] l.texts
