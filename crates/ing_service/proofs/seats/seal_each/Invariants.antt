use Rattle.std.proofs.Common.{◌≡◌, map}
use Rattle.ing_limits.specs.Settings.{StoreSettings}
use Rattle.ing_durable.specs.Kept.{whose}
use Rattle.ing_service.specs.ByShards.{event_of}
use Rattle.ing_service.specs.Held.{AreShardsOf, shard_held}
use Rattle.ing_service.proofs.SealLaws.{HaveSealed}
use Rattle.ing_service.proofs.seats.seal_each.Given as goal

-- the first shards have sealed what is due
abbrev pub invariant-loop-seat : goal.invariant-loop-seat
invariant-loop-seat g l = record {
  seals : (settings : StoreSettings) → AreShardsOf settings (map (λ seat. whose seat.shard.memory) l.fn.seats)
      → HaveSealed settings (event_of l.which) l.seat-index (map (λ seat. shard_held seat.shard) l.fn.seats) (map (λ seat. shard_held seat.shard) l.seats) l.sealed l.ops.items;
  same : map (λ seat. whose seat.shard.memory) l.seats ≡ map (λ seat. whose seat.shard.memory) l.fn.seats;
}
