use Rattle.std.proofs.Common.{◌≡◌, length, map, vec_len}
use Rattle.ing_commands.specs.Views.{push_view}
use Rattle.ing_session.specs.PushLines.{rest_of}
use Rattle.ing_lanes.specs.ByLane.{told_by}
use Rattle.ing_lanes.specs.Counted.{Rises}
use Rattle.ing_lanes.specs.Drafts.{DraftsLines}
use Rattle.ing_lanes.proofs.lane.Lane.draft_lines.Given as goal

-- the pushes so far are done, but for what outlives a crash
abbrev pub invariant-loop-self : goal.invariant-loop-self
invariant-loop-self g l = record {
  pushed : DraftsLines g.N.NodeName.has_logs g.N.NodeName.settings (push_view l.fn.first) (rest_of l.fn.lines) (rest_of l.lines)
      (told_by l.fn.self.pusher) (told_by l.self.pusher) (map (λ push. push.items) l.drafts.items);
  rises : Rises (told_by l.fn.self.pusher) (told_by l.self.pusher);
  marks : vec_len l.marks ≡ vec_len l.fn.marks;
  workers : l.self.workers ≡ l.fn.self.workers;
  board : l.self.board ≡ l.fn.self.board;
}

-- each turn takes a line
abbrev pub decreases-loop-self : goal.decreases-loop-self
decreases-loop-self g l = length (rest_of l.lines)
