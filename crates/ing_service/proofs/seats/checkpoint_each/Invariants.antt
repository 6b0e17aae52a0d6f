use Rattle.std.proofs.Common.{◌≡◌, map}
use Rattle.ing_durable.specs.Kept.{whose}
use Rattle.ing_service.specs.ByShards.{Publishes}
use Rattle.ing_service.specs.Held.{shard_held}
use Rattle.ing_service.proofs.EachLaws.{HaveGone}
use Rattle.ing_service.proofs.seats.checkpoint_each.Given as goal

-- the first shards have been published or not
abbrev pub invariant-loop-seat : goal.invariant-loop-seat
invariant-loop-seat g l = record {
  gone : HaveGone (Publishes l.is_logged) l.published.items l.seat-index (map (λ seat. shard_held seat.shard) l.fn.seats) (map (λ seat. shard_held seat.shard) l.seats);
  same : map (λ seat. whose seat.shard.memory) l.seats ≡ map (λ seat. whose seat.shard.memory) l.fn.seats;
}
