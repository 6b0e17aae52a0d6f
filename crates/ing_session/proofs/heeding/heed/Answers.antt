use Rattle.std.proofs.Common.{arith, inl, inr, refl, subst, ◌∙◌}
use Rattle.std.proofs.lemmas.Result.{err_from_is_err_and}
use Rattle.ing_session.specs.Ticks.{GoesOnSaying}
use Rattle.ing_session.proofs.RunsLaws.{hears_first}
use Rattle.ing_session.proofs.StepsLaws.{breaks, runs_out}
use Rattle.ing_session.proofs.TicksLaws.{first_done, quiet, tick_obeyed}
use Rattle.ing_session.proofs.heeding.heed.Goals as goal

-- what was held back is not written
pub returns-in_err-write_before_waiting-clause-step : goal.returns-in_err-write_before_waiting-clause-step
returns-in_err-write_before_waiting-clause-step g c = λ at_end left rest.
    let p = err_from_is_err_and c.from_residual.result c.from_residual.ensures.1 in
    breaks p.1 (p.2 ∙ c.in_err-write_before_waiting.ensures.ending)
    (record { heard = hears_first (g.P.Ticker.said c.args.ticker.now); risen = omega arith; left = λ held is_held. inl is_held })
    c.in_err-write_before_waiting.ensures.front

-- memory ran out at what was said
pub returns-in_err-obey_tick-clause-step : goal.returns-in_err-obey_tick-clause-step
returns-in_err-obey_tick-clause-step g c = λ at_end left rest.
    let said = g.P.Ticker.said in
    let p = err_from_is_err_and c.from_residual-in_err-obey_tick.result c.from_residual-in_err-obey_tick.ensures.1 in
    runs_out p.1 p.2
    (record {
      heard = λ turns all. first_done (said c.args.ticker.now) (said c.next_tick.new.self) c.next_tick.result turns all c.next_tick.ensures;
      risen = c.in_err-obey_tick.ensures.end.0;
      left = λ held is_held. inr (c.in_err-obey_tick.ensures.left held is_held);
    })
    c.in_ok-write_before_waiting.ensures.held

-- nothing was said
pub returns-in_default-clause-step : goal.returns-in_default-clause-step
returns-in_default-clause-step g c = λ at_end left rest. quiet c.in_default.ensures c.in_ok-write_before_waiting.ensures.held

-- what was said is done
pub returns-clause-step : goal.returns-clause-step
returns-clause-step g c = λ at_end left rest.
    let said = g.P.Ticker.said in
    let obeyed = c.in_ok-obey_tick.ensures in
    tick_obeyed c.in-Some.tick
    (subst (λ told. GoesOnSaying (said c.args.ticker.now) (said c.next_tick.new.self) told) c.in-Some.is c.next_tick.ensures)
    c.in_ok-write_before_waiting.ensures.held obeyed.settings obeyed.obeyed refl refl
