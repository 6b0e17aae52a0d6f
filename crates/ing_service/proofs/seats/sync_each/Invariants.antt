use Rattle.std.proofs.Common.{◌≡◌, map, take, drop}
use Rattle.ing_durable.specs.Kept.{whose}
use Rattle.ing_service.specs.Drafts.{IsSynced, drafted}
use Rattle.ing_service.specs.Held.{shard_held}
use Rattle.ing_service.proofs.EachLaws.{HaveGone}
use Rattle.ing_service.proofs.seats.sync_each.Given as goal

-- what waited is written to the logs of the first shards
abbrev pub invariant-loop-seat : goal.invariant-loop-seat
invariant-loop-seat g l = record {
  gone : HaveGone IsSynced (take l.seat-index (map (λ seat. drafted seat.shard seat.unsynced) l.fn.seats)) l.seat-index (map (λ seat. shard_held seat.shard) l.fn.seats) (map (λ seat. shard_held seat.shard) l.seats);
  left : drop l.seat-index l.seats ≡ drop l.seat-index l.fn.seats;
  same : map (λ seat. whose seat.shard.memory) l.seats ≡ map (λ seat. whose seat.shard.memory) l.fn.seats;
}
