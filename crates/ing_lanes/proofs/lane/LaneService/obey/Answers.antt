use Rattle.std.proofs.Common.{◌≤◌, ℕ, Ok, arith, refl, subst, sym}
use Rattle.std.proofs.lemmas.Result.{IfOk-weaker}
use Rattle.ing_commands.specs.Commands.{Board, Catalog, Checkpoint, Gauges, Push, Sweep}
use Rattle.ing_commands.specs.Views.{catalog_view, gauges_view, push_view, sweep_view}
use Rattle.ing_session.specs.Views.{reply_data}
use Rattle.ing_session.proofs.ObeyLaws.{obeyed}
use Rattle.ing_lanes.specs.ByLane.{Held, by_lane, failed_of, told_by}
use Rattle.ing_lanes.specs.Counted.{IsHeld, counted_by}
use Rattle.ing_node.specs.Boards.{known_at}
use Rattle.ing_lanes.proofs.HeldLaws.{held_least, no_less_on, rises_none, rises_same, same_held}
use Rattle.ing_lanes.proofs.lane.LaneService.obey.Goals as goal

pub returns-in-Push-clause-obeyed : goal.returns-in-Push-clause-obeyed
returns-in-Push-clause-obeyed g c =
    let settings = g.N.NodeName.settings in
    let left = c.push.new.self in
    rw c.in-Push.is (IfOk-weaker c.push.result _ _
    (λ reply pushed old is_held.
    let new : Held = record { told = told_by left.pusher; chunks = old.chunks; board = old.board } in
    obeyed (by_lane g.S.StoreEnd.is_honest g.N.NodeName.has_logs) settings old new (IsHeld left.pusher (counted_by left.workers.items) left.board) (Ok (Push (push_view c.in-Push.push))) (g.S.StoreEnd.failure_count c.args.end.now) (reply_data reply)
    (same_held (λ ws. counted_by ws.items) left.pusher left.pusher _ _ _ _ new refl c.push.ensures.workers c.push.ensures.board (record { told = λ i. refl; chunks = is_held.chunks; none = is_held.none; board = is_held.board }))
    (pushed old.told is_held.told, record { chunks = refl; board = refl }))
    c.push.ensures.pushed)

pub returns-in-Sweep-clause-obeyed : goal.returns-in-Sweep-clause-obeyed
returns-in-Sweep-clause-obeyed g c =
    let settings = g.N.NodeName.settings in
    let left = c.sweep.new.self in
    rw c.in-Sweep.is (IfOk-weaker c.sweep.result _ _
    (λ reply form old is_held.
    obeyed (by_lane g.S.StoreEnd.is_honest g.N.NodeName.has_logs) settings old old (IsHeld left.pusher (counted_by left.workers.items) left.board) (Ok (Sweep (sweep_view c.in-Sweep.sweep))) (g.S.StoreEnd.failure_count c.args.end.now) (reply_data reply)
    (same_held (λ ws. counted_by ws.items) _ _ _ _ _ _ old c.sweep.ensures.pusher c.sweep.ensures.workers c.sweep.ensures.board is_held) (record { may_be = form; left = λ i. refl; failures = refl }, record { chunks = refl; board = refl }))
    c.sweep.ensures.reply)

pub returns-in-Gauges-clause-obeyed : goal.returns-in-Gauges-clause-obeyed
returns-in-Gauges-clause-obeyed g c =
    let settings = g.N.NodeName.settings in
    let now = c.args.self.now in
    rw c.in-Gauges.is (IfOk-weaker c.gauges.result _ _
    (λ reply form old is_held.
    obeyed (by_lane g.S.StoreEnd.is_honest g.N.NodeName.has_logs) settings old old (IsHeld now.pusher (counted_by now.workers.items) now.board) (Ok (Gauges (gauges_view c.in-Gauges.gauges))) (g.S.StoreEnd.failure_count c.args.end.now) (reply_data reply)
    is_held (record { may_be = form; left = λ i. refl; failures = refl }, record { chunks = refl; board = refl }))
    c.gauges.ensures)

pub returns-in-Checkpoint-clause-obeyed : goal.returns-in-Checkpoint-clause-obeyed
returns-in-Checkpoint-clause-obeyed g c =
    let settings = g.N.NodeName.settings in
    let now = c.args.self.now in
    rw c.in-Checkpoint.is (IfOk-weaker c.checkpoint.result _ _
    (λ reply form old is_held.
    obeyed (by_lane g.S.StoreEnd.is_honest g.N.NodeName.has_logs) settings old old (IsHeld now.pusher (counted_by now.workers.items) now.board) (Ok Checkpoint) (g.S.StoreEnd.failure_count c.args.end.now) (reply_data reply)
    is_held (record { may_be = form; left = λ i. refl; failures = refl }, record { chunks = refl; board = refl }))
    c.checkpoint.ensures)

pub returns-in-Board-clause-obeyed : goal.returns-in-Board-clause-obeyed
returns-in-Board-clause-obeyed g c =
    let settings = g.N.NodeName.settings in
    let left = c.board.new.self in
    rw c.in-Board.is (IfOk-weaker c.board.result _ _
    (λ reply reads old is_held.
    let new : Held = record { told = old.told; chunks = old.chunks; board = λ i. known_at i left.board } in
    let later = λ (i : ℕ). no_less_on (old.board i) (known_at i c.args.self.now.board) (known_at i left.board) (is_held.board i) (reads.later i) in
    obeyed (by_lane g.S.StoreEnd.is_honest g.N.NodeName.has_logs) settings old new (IsHeld left.pusher (counted_by left.workers.items) left.board) (Ok Board) (g.S.StoreEnd.failure_count c.args.end.now) (reply_data reply)
    (subst (λ p. IsHeld p (counted_by left.workers.items) left.board new) (sym c.board.ensures.pusher)
    (subst (λ ws. IsHeld c.args.self.now.pusher (counted_by ws.items) left.board new) (sym c.board.ensures.workers)
    (record { told = is_held.told; chunks = is_held.chunks; none = is_held.none; board = λ i. (omega arith, omega arith) })))
    (record { shards = reads.shards; all = reads.all; ordered = reads.ordered; later = later; known = reads.known; told = reads.told; left = λ i. refl; chunks = refl; failures = refl }))
    c.board.ensures.reply)

pub returns-in-Query-clause-obeyed : goal.returns-in-Query-clause-obeyed
returns-in-Query-clause-obeyed g c =
    rw c.in-Query.is (IfOk-weaker c.query.result _ _
    (λ reply came old is_held.
    let made = came old.told is_held.told in
    record {
      failed = failed_of made.answer;
      left = old;
      obeys = (record { answer = made.answer; may_be = made.may_be; told = made.told; left = λ i. refl; failures = refl }, record { chunks = refl; board = refl });
      causes = made.causes;
      holds = same_held (λ ws. counted_by ws.items) _ _ _ _ _ _ old c.query.ensures.pusher c.query.ensures.workers c.query.ensures.board is_held;
    })
    c.query.ensures.came)

-- ---- what is left

pub returns-in-Push-clause-left : goal.returns-in-Push-clause-left
returns-in-Push-clause-left g c = λ old is_held.
    let now = c.args.self.now in
    let left = c.push.new.self in
    held_least now.pusher left.pusher (counted_by now.workers.items) (counted_by left.workers.items) now.board old c.push.ensures.rises
    (subst (λ ws. counted_by now.workers.items ≤ counted_by ws.items) (sym c.push.ensures.workers) (omega arith)) is_held

pub returns-in-Sweep-clause-left : goal.returns-in-Sweep-clause-left
returns-in-Sweep-clause-left g c = λ old is_held.
    let now = c.args.self.now in
    let left = c.sweep.new.self in
    held_least now.pusher left.pusher (counted_by now.workers.items) (counted_by left.workers.items) now.board old (rises_same now.pusher left.pusher c.sweep.ensures.pusher)
    (subst (λ ws. counted_by now.workers.items ≤ counted_by ws.items) (sym c.sweep.ensures.workers) (omega arith)) is_held

pub returns-in-Board-clause-left : goal.returns-in-Board-clause-left
returns-in-Board-clause-left g c = λ old is_held.
    let now = c.args.self.now in
    let left = c.board.new.self in
    held_least now.pusher left.pusher (counted_by now.workers.items) (counted_by left.workers.items) now.board old (rises_same now.pusher left.pusher c.board.ensures.pusher)
    (subst (λ ws. counted_by now.workers.items ≤ counted_by ws.items) (sym c.board.ensures.workers) (omega arith)) is_held

pub returns-in-Query-clause-left : goal.returns-in-Query-clause-left
returns-in-Query-clause-left g c = λ old is_held.
    let now = c.args.self.now in
    let left = c.query.new.self in
    held_least now.pusher left.pusher (counted_by now.workers.items) (counted_by left.workers.items) now.board old (rises_same now.pusher left.pusher c.query.ensures.pusher)
    (subst (λ ws. counted_by now.workers.items ≤ counted_by ws.items) (sym c.query.ensures.workers) (omega arith)) is_held

pub returns-in-Gauges-clause-left : goal.returns-in-Gauges-clause-left
returns-in-Gauges-clause-left g c = λ old is_held.
    let now = c.args.self.now in
    held_least now.pusher now.pusher (counted_by now.workers.items) (counted_by now.workers.items) now.board old (rises_none (told_by now.pusher)) (omega arith) is_held

pub returns-in-Checkpoint-clause-left : goal.returns-in-Checkpoint-clause-left
returns-in-Checkpoint-clause-left g c = λ old is_held.
    let now = c.args.self.now in
    held_least now.pusher now.pusher (counted_by now.workers.items) (counted_by now.workers.items) now.board old (rises_none (told_by now.pusher)) (omega arith) is_held

pub returns-in-Catalog-clause-obeyed : goal.returns-in-Catalog-clause-obeyed
returns-in-Catalog-clause-obeyed g c =
    let settings = g.N.NodeName.settings in
    let left = c.catalog.new.self in
    rw c.in-Catalog.is (IfOk-weaker c.catalog.result _ _
    (λ reply came old is_held.
    obeyed (by_lane g.S.StoreEnd.is_honest g.N.NodeName.has_logs) settings old old (IsHeld left.pusher (counted_by left.workers.items) left.board) (Ok (Catalog (catalog_view c.in-Catalog.catalog))) (g.S.StoreEnd.failure_count c.args.end.now) (reply_data reply)
    (same_held (λ ws. counted_by ws.items) _ _ _ _ _ _ old c.catalog.ensures.pusher c.catalog.ensures.workers c.catalog.ensures.board is_held)
    (record { came = came old.told is_held.told; left = λ i. refl; failures = refl }, record { chunks = refl; board = refl }))
    c.catalog.ensures.came)

pub returns-in-Catalog-clause-left : goal.returns-in-Catalog-clause-left
returns-in-Catalog-clause-left g c = λ old is_held.
    let now = c.args.self.now in
    let left = c.catalog.new.self in
    held_least now.pusher left.pusher (counted_by now.workers.items) (counted_by left.workers.items) now.board old (rises_same now.pusher left.pusher c.catalog.ensures.pusher)
    (subst (λ ws. counted_by now.workers.items ≤ counted_by ws.items) (sym c.catalog.ensures.workers) (omega arith)) is_held
