use Rattle.std.proofs.Common.{◌≡◌, ◌∙◌, ◌++◌, ◌∷◌, [], map, sym, ap, subst}
use Rattle.std.proofs.lemmas.List.{map-append}
use Rattle.ing_commands.specs.Views.{push_view}
use Rattle.ing_session.specs.PushLines.{rest_of}
use Rattle.ing_lanes.specs.ByLane.{told_by}
use Rattle.ing_lanes.specs.Drafts.{DraftsLines}
use Rattle.ing_lanes.proofs.DraftLaws.{first_drafted, more_drafted}
use Rattle.ing_lanes.proofs.HeldLaws.{rises_trans}
use Rattle.ing_lanes.proofs.lane.Lane.draft_lines.Goals as goal

pub loop-self-init : goal.loop-self-init
loop-self-init g c =
    let logs = g.N.NodeName.has_logs in
    let settings = g.N.NodeName.settings in
    let push = push_view c.args.first in
    let bytes = rest_of c.args.lines.now in
    let old = told_by c.args.self.now.pusher in
    let new = told_by c.draft_streams.new.self.pusher in
    let streams = c.in_ok-streams.streams in
    let items : c.push.new.self.items ≡ streams ∷ [] = c.in_ok-push.ensures.items ∙ ap (λ l. l ++ streams ∷ []) c.new-drafts.ensures.items in
    record {
      pushed = subst (λ drafts. DraftsLines logs settings push bytes bytes old new (map (λ push. push.items) drafts)) (sym items) (first_drafted logs settings push bytes old new streams.items c.in_ok-streams.ensures.pushed);
      rises = c.draft_streams.ensures.rises;
      marks = c.draft_streams.ensures.marks;
      workers = c.draft_streams.ensures.workers;
      board = c.draft_streams.ensures.board;
    }

pub loop-self-preserved : goal.loop-self-preserved
loop-self-preserved g c =
    let logs = g.N.NodeName.has_logs in
    let settings = g.N.NodeName.settings in
    let first = push_view c.args.first in
    let push = push_view c.in-Some.push in
    let bytes = rest_of c.args.lines.now in
    let mid = rest_of c.loop-self.lines in
    let rest = rest_of c.next.new.self in
    let old = told_by c.args.self.now.pusher in
    let now = told_by c.loop-self.self.pusher in
    let new = told_by c.draft_streams-in-loop-self.new.self.pusher in
    let so_far = c.loop-self.drafts.items in
    let streams = c.in_ok-streams-2.streams in
    let this = c.draft_streams-in-loop-self.ensures in
    let before = c.loop-self.invariant in
    let items : map (λ push. push.items) c.push-in-loop-self.new.self.items ≡ map (λ push. push.items) so_far ++ streams.items ∷ [] =
    ap (map (λ push. push.items)) c.in_ok-push-3.ensures.items ∙ map-append (λ push. push.items) so_far (streams ∷ []) in
    record {
      pushed = subst (DraftsLines logs settings first bytes rest old new) (sym items)
          (more_drafted logs settings first push bytes mid rest old now new (map (λ push. push.items) so_far) streams.items before.pushed (rw c.in-Some.is at c.in_ok-push-2.ensures) c.in_ok-streams-2.ensures.pushed);
      rises = rises_trans old now new before.rises this.rises;
      marks = this.marks ∙ before.marks;
      workers = this.workers ∙ before.workers;
      board = this.board ∙ before.board;
    }
