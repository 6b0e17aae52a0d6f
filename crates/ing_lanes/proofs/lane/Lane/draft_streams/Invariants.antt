use Rattle.std.proofs.Common.{◌≡◌, ◌++◌, Bool, List, length, map, vec_len}
use Rattle.std.specs.Vec.Iter.{into_iter_items, into_iter_len}
use Rattle.ing_commands.specs.Views.{stream_view}
use Rattle.ing_lanes.specs.ByLane.{PushesStreams, told_by}
use Rattle.ing_lanes.specs.Counted.{Rises}
use Rattle.ing_lanes.specs.Drafts.{MayLast, data_of}
use Rattle.ing_lanes.proofs.lane.Lane.draft_streams.Given as goal

-- the streams so far are pushed
abbrev pub invariant-loop-stream : goal.invariant-loop-stream
invariant-loop-stream g l = record {
  all : l.yielded ++ into_iter_items l.stream-iterator ≡ into_iter_items l.initial.stream-iterator;
  whole : into_iter_len l.stream-iterator ≡ length (into_iter_items l.stream-iterator);
  told : (lasting : List Bool) → MayLast g.N.NodeName.has_logs lasting →
      PushesStreams g.N.NodeName.has_logs g.N.NodeName.settings l.fn.push.tenant l.fn.push.now (map stream_view l.yielded) (map (data_of lasting) l.drafts.items)
      (told_by l.fn.self.pusher) (told_by l.self.pusher);
  rises : Rises (told_by l.fn.self.pusher) (told_by l.self.pusher);
  workers : l.self.workers ≡ l.fn.self.workers;
  marks : vec_len l.marks ≡ vec_len l.fn.marks;
  board : l.self.board ≡ l.fn.self.board;
}
