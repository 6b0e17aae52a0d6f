use Rattle.std.proofs.Common.{◌≡◌, ◌≤◌, ◌+◌, ◌++◌, ℕ, map, reverse, vec_len}
use Rattle.std.specs.Prelude.{All, sum_by, true}
use Rattle.std.specs.Vec.{vec_capacity}
use Rattle.ing_tally.specs.Books.{amount_of}
use Rattle.ing_node.specs.Diaries.{KeepsDiary}
use Rattle.ing_lanes.specs.ByLane.{Measure, told_as}
use Rattle.ing_lanes.specs.Counted.{counted_by}
use Rattle.ing_node.specs.Names.{IsTallyOf}
use Rattle.ing_lanes.proofs.closing.part_all.Given as goal

-- what is left, and what is apart, is all
abbrev pub invariant-loop-channel : goal.invariant-loop-channel
invariant-loop-channel g l = record {
  room_of_lines : vec_len l.channels + vec_len l.lines ≤ vec_capacity l.lines;
  room_of_pushers : vec_len l.channels + vec_len l.pushers ≤ vec_capacity l.pushers;
  room_of_tallies : vec_len l.channels + vec_len l.tallies ≤ vec_capacity l.tallies;
  same : map (λ c. c.line) l.initial.channels.items ≡ map (λ c. c.line) l.channels.items ++ reverse l.lines.items;
  told : (measure : Measure) → sum_by (λ p. told_as p measure) l.pushers.items + sum_by (λ c. told_as c.lane.pusher measure) l.channels.items
      ≡ sum_by (λ c. told_as c.lane.pusher measure) l.initial.channels.items;
  diaries : g.N.NodeName.settings.diaries ≡ true → All KeepsDiary l.pushers.items;
  own : All (IsTallyOf g.N.NodeName.settings.shards g.N.NodeName.books) l.tallies.items;
  counted : sum_by amount_of l.tallies.items + sum_by (λ c. counted_by c.lane.workers.items) l.channels.items
      ≡ sum_by (λ c. counted_by c.lane.workers.items) l.initial.channels.items;
}

abbrev pub decreases-loop-channel : goal.decreases-loop-channel
decreases-loop-channel g l = vec_len l.channels
