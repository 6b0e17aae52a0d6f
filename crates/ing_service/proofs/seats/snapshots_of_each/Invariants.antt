use Rattle.std.proofs.Common.{map, take}
use Rattle.ing_query.specs.Questions.{question_view}
use Rattle.ing_service.specs.Held.{shard_held}
use Rattle.ing_service.specs.Snapshots.{AreAsked}
use Rattle.ing_service.proofs.seats.snapshots_of_each.Given as goal

-- those of the first shards
abbrev pub invariant-loop-seat : goal.invariant-loop-seat
invariant-loop-seat g l = AreAsked l.tenant l.selector (question_view l.question) l.snapshots.items (take l.seat-index (map (λ seat. shard_held seat.shard) l.seats))
