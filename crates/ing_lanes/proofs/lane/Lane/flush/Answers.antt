use Rattle.std.proofs.Common.{◌≤◌, ◌∙◌, arith, refl, subst, sym, inl, inr}
use Rattle.std.proofs.lemmas.Result.{IfOk-weaker}
use Rattle.ing_commands.specs.Views.{flush_view}
use Rattle.ing_session.specs.Views.{reply_data}
use Rattle.ing_lanes.specs.Counted.{RisesBy, counted_by}
use Rattle.ing_lanes.proofs.CountLaws.{rises_none, told_flush}
use Rattle.ing_lanes.proofs.lane.Lane.flush.Goals as goal

pub returns-in_ok-save_torn-in-Ok-clause-obeyed : goal.returns-in_ok-save_torn-in-Ok-clause-obeyed
returns-in_ok-save_torn-in-Ok-clause-obeyed g c = λ count held is_held.
    let old = c.args.self.now in
    let left = c.flush_all-round.new.self in
    let round = c.flush_all-round.result in
    let same = c.seal.ensures.workers in
    told_flush g.S.StoreEnd.is_honest g.N.NodeName.has_logs g.N.NodeName.settings old.pusher left.pusher old.board left.board (counted_by old.workers.items) (counted_by left.workers.items) round.stored count (flush_view c.args.said) held _
    (c.flush_all-round.ensures.pusher ∙ c.seal.ensures.pusher)
    (c.flush_all-round.ensures.board ∙ c.seal.ensures.board)
    (subst (λ ws. RisesBy round.stored (counted_by ws.items) (counted_by left.workers.items)) same c.flush_all-round.ensures.rises)
    (inl (record { failed = round.failed; sealed = c.in-Ok.swept.sealed; told = refl })) is_held

pub returns-in_ok-save_torn-in-Ok-clause-risen : goal.returns-in_ok-save_torn-in-Ok-clause-risen
returns-in_ok-save_torn-in-Ok-clause-risen g c =
    let old = c.args.self.now in
    let left = c.flush_all-round.new.self in
    subst (λ ws. counted_by ws.items ≤ counted_by left.workers.items) c.seal.ensures.workers (let least = c.flush_all-round.ensures.rises.least in omega (arith, least))

pub returns-in_err-save_torn-in-Ok-clause-risen : goal.returns-in_err-save_torn-in-Ok-clause-risen
returns-in_err-save_torn-in-Ok-clause-risen g c =
    let old = c.args.self.now in
    let left = c.flush_all-round.new.self in
    subst (λ ws. counted_by ws.items ≤ counted_by left.workers.items) c.seal.ensures.workers (let least = c.flush_all-round.ensures.rises.least in omega (arith, least))

-- a lock was not passed, and nothing is flushed
pub returns-in-Err-clause-obeyed : goal.returns-in-Err-clause-obeyed
returns-in-Err-clause-obeyed g c = λ count.
    let old = c.args.self.now in
    let left = c.seal.new.self in
    let counted = counted_by old.workers.items in
    IfOk-weaker c.node_fault.result _ _
    (λ reply told held is_held.
    told_flush g.S.StoreEnd.is_honest g.N.NodeName.has_logs g.N.NodeName.settings old.pusher left.pusher old.board left.board counted (counted_by left.workers.items) 0 count (flush_view c.args.said) held (reply_data reply) c.seal.ensures.pusher c.seal.ensures.board
    (subst (λ ws. RisesBy 0 counted (counted_by ws.items)) (sym c.seal.ensures.workers) (rises_none counted))
    (inr (record { why = c.in-Err.fault; told = told }, refl)) is_held)
    c.node_fault.ensures

pub returns-in-Err-clause-risen : goal.returns-in-Err-clause-risen
returns-in-Err-clause-risen g c =
    subst (λ ws. counted_by c.args.self.now.workers.items ≤ counted_by ws.items) (sym c.seal.ensures.workers) (omega arith)
