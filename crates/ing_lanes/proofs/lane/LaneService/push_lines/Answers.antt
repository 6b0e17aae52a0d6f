use Rattle.std.proofs.Common.{ℕ, ◌≤◌, ◌∙◌, ◌∷◌, arith, map, refl, subst, sym}
use Rattle.std.proofs.lemmas.Result.{IfOk-weaker}
use Rattle.ing_commands.specs.Views.{push_view}
use Rattle.ing_session.specs.Views.{reply_data}
use Rattle.ing_node.specs.Boards.{IsNoLess, known_at}
use Rattle.ing_lanes.specs.ByLane.{told_by}
use Rattle.ing_lanes.specs.Counted.{counted_by}
use Rattle.ing_lanes.proofs.DraftLaws.{each_obeyed}
use Rattle.ing_lanes.proofs.HeldLaws.{held_least, same_held}
use Rattle.ing_lanes.proofs.lane.LaneService.push_lines.Goals as goal

pub returns-clause-obeyed : goal.returns-clause-obeyed
returns-clause-obeyed g c =
    let left = c.push_all.new.self in
    IfOk-weaker c.push_all.result _ _
    (λ replies pushed old is_held.
    let after = each_obeyed g.N.NodeName.has_logs g.N.NodeName.settings g.S.StoreEnd.is_honest (push_view c.args.first ∷ pushed.others) (told_by c.args.self.now.pusher) (told_by left.pusher) old (map reply_data replies.items) is_held.told pushed.each in
    record {
      others = pushed.others;
      taken = pushed.taken;
      left = after.left;
      obeys = after.obeys;
      holds =
          same_held (λ ws. counted_by ws.items) left.pusher left.pusher _ _ _ _ after.left refl c.push_all.ensures.workers c.push_all.ensures.board
          (record {
            told = after.told;
            chunks = subst (λ n. n ≤ counted_by c.args.self.now.workers.items) (sym after.chunks) is_held.chunks;
            none = λ none. is_held.none (sym after.chunks ∙ none);
            board = subst (λ b. (i : ℕ) → IsNoLess (b i) (known_at i c.args.self.now.board)) (sym after.board) is_held.board;
          });
    })
    c.push_all.ensures.pushed

pub returns-clause-left : goal.returns-clause-left
returns-clause-left g c = λ old is_held.
    let now = c.args.self.now in
    let left = c.push_all.new.self in
    held_least now.pusher left.pusher (counted_by now.workers.items) (counted_by left.workers.items) now.board old c.push_all.ensures.rises
    (subst (λ ws. counted_by now.workers.items ≤ counted_by ws.items) (sym c.push_all.ensures.workers) (omega arith)) is_held
