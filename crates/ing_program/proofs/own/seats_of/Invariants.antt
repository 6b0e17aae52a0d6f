use Rattle.std.proofs.Common.{◌≡◌, ◌+◌, ◌≤◌, ◌++◌, map, reverse, vec_len}
use Rattle.std.specs.Prelude.{All}
use Rattle.std.specs.Vec.{vec_capacity}
use Rattle.ing_program.proofs.own.seats_of.Given as goal

-- those so far, in order, and those that are left
abbrev pub invariant-loop-begun : goal.invariant-loop-begun
invariant-loop-begun g l = record {
  so_far : map (λ seat. seat.shard) l.seats.items ++ map (λ begun. begun.shard) (reverse l.last_first.items) ≡ map (λ begun. begun.shard) (reverse l.fn.last_first.items);
  room : vec_len l.seats + vec_len l.last_first ≤ vec_capacity l.seats;
  own : All (λ begun. (begun.accepted.book ≡ begun.shard.memory.books.accepted.name) × (begun.stored.book ≡ begun.shard.memory.books.stored.name)) (reverse l.last_first.items);
}

abbrev pub decreases-loop-begun : goal.decreases-loop-begun
decreases-loop-begun g l = vec_len l.last_first
