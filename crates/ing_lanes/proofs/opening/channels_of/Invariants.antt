use Rattle.std.proofs.Common.{◌≡◌, ◌≤◌, ◌+◌, ◌++◌, length, map, vec_len}
use Rattle.std.specs.Prelude.{All}
use Rattle.std.specs.Vec.{vec_capacity}
use Rattle.std.specs.Vec.Iter.{into_iter_items, into_iter_len}
use Rattle.ing_lanes.specs.ByLane.{nothing_held}
use Rattle.ing_lanes.specs.Counted.{IsHeld, counted_by}
use Rattle.ing_lanes.proofs.opening.channels_of.Given as goal

-- the first lines have who obeys their commands
abbrev pub invariant-loop-line : goal.invariant-loop-line
invariant-loop-line g l = record {
  all : l.yielded ++ into_iter_items l.line-iterator ≡ into_iter_items l.initial.line-iterator;
  whole : into_iter_len l.line-iterator ≡ length (into_iter_items l.line-iterator);
  sweeper : l.sweeper.pass.queue ≡ l.shared.flushing.queue.name;
  ends : vec_len l.flushers ≡ into_iter_len l.line-iterator;
  lines : map (λ c. c.line) l.channels.items ≡ l.yielded;
  nothing : All (λ c. IsHeld c.lane.pusher (counted_by c.lane.workers.items) c.lane.board nothing_held) l.channels.items;
  room : vec_len l.channels + into_iter_len l.line-iterator ≤ vec_capacity l.channels;
}
