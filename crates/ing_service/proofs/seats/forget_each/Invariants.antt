use Rattle.std.proofs.Common.{◌≡◌, false, map, take}
use Rattle.std.specs.Prelude.{All, is_some}
use Rattle.ing_durable.specs.Kept.{whose}
use Rattle.ing_service.specs.Held.{shard_held}
use Rattle.ing_service.proofs.seats.forget_each.Given as goal

-- nothing waits for the first shards
abbrev pub invariant-loop-seat : goal.invariant-loop-seat
invariant-loop-seat g l = record {
  none : All (λ seat. is_some seat.unsynced ≡ false) (take l.seat-index l.seats);
  held : map (λ seat. shard_held seat.shard) l.seats ≡ map (λ seat. shard_held seat.shard) l.fn.seats;
  same : map (λ seat. whose seat.shard.memory) l.seats ≡ map (λ seat. whose seat.shard.memory) l.fn.seats;
}
