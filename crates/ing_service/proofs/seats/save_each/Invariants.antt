use Rattle.std.proofs.Common.{◌≡◌, Bool, List, map}
use Rattle.ing_durable.specs.Kept.{whose}
use Rattle.ing_service.specs.Flushes.{IsSaved}
use Rattle.ing_service.specs.Held.{shard_held}
use Rattle.ing_service.proofs.EachLaws.{HaveGone}
use Rattle.ing_service.proofs.seats.save_each.Given as goal

-- the first shards have been saved
abbrev pub invariant-loop-seat : goal.invariant-loop-seat
invariant-loop-seat g l = record {
  gone : (whole : List Bool) × HaveGone (IsSaved ⊥) whole l.seat-index (map (λ seat. shard_held seat.shard) l.fn.seats) (map (λ seat. shard_held seat.shard) l.seats);
  same : map (λ seat. whose seat.shard.memory) l.seats ≡ map (λ seat. whose seat.shard.memory) l.fn.seats;
}
