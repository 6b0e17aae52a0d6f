use Rattle.std.proofs.Common.{arith, refl}
use Rattle.std.proofs.lemmas.Result.{err_from_is_err_and}
use Rattle.ing_session.proofs.CausesLaws.{goes_on}
use Rattle.ing_session.proofs.FrontsLaws.{grows_none, grows_on}
use Rattle.ing_session.proofs.StepsLaws.{alike, ends, then_steps}
use Rattle.ing_session.proofs.heeding.heed_all.Goals as goal

pub loop-init : goal.loop-init
loop-init g c = record {
  step = λ at_end left rest. record { leads = λ began serves. serves };
  grown = grows_none (g.W.Write.contents c.args.writer.now);
  end = (omega arith, λ sure. (sure, refl));
}

-- one thing more is done
pub loop-preserved : goal.loop-preserved
loop-preserved g c =
    let contents = g.W.Write.contents in
    let before = c.loop in
    let new = c.heed.new in
    record {
      step = λ at_end left rest.
          alike refl (then_steps (before.invariant.step at_end left rest) (c.in_ok-heed.ensures.step at_end left rest) before.invariant.grown);
      grown = grows_on (contents c.args.writer.now) (contents before.writer) (contents new.writer) before.invariant.grown c.in_ok-heed.ensures.grown;
      end = goes_on g.C.Service.never_fails g.C.Service.failures c.args.end.now before.end new.end before.invariant.end c.in_ok-heed.ensures.end;
    }

-- it says nothing more
pub returns-then-not-branch-clause-step : goal.returns-then-not-branch-clause-step
returns-then-not-branch-clause-step g c = λ at_end left rest.
    alike refl (then_steps (c.loop.invariant.step at_end left rest) (c.in_ok-heed.ensures.step at_end left rest) c.loop.invariant.grown)

pub returns-then-not-branch-clause-grown : goal.returns-then-not-branch-clause-grown
returns-then-not-branch-clause-grown g c =
    let contents = g.W.Write.contents in
    grows_on (contents c.args.writer.now) (contents c.loop.writer) (contents c.heed.new.writer) c.loop.invariant.grown c.in_ok-heed.ensures.grown

pub returns-then-not-branch-clause-end : goal.returns-then-not-branch-clause-end
returns-then-not-branch-clause-end g c =
    goes_on g.C.Service.never_fails g.C.Service.failures c.args.end.now c.loop.end c.heed.new.end c.loop.invariant.end c.in_ok-heed.ensures.end

-- it ends early

pub returns-in_err-heed-clause-step : goal.returns-in_err-heed-clause-step
returns-in_err-heed-clause-step g c = λ at_end left rest.
    let p = err_from_is_err_and c.from_residual.result c.from_residual.ensures.1 in
    then_steps (c.loop.invariant.step at_end left rest) (ends p.1 p.2 (c.in_err-heed.ensures.step at_end left rest).leads) c.loop.invariant.grown

pub returns-in_err-heed-clause-grown : goal.returns-in_err-heed-clause-grown
returns-in_err-heed-clause-grown g c =
    let contents = g.W.Write.contents in
    grows_on (contents c.args.writer.now) (contents c.loop.writer) (contents c.heed.new.writer) c.loop.invariant.grown c.in_err-heed.ensures.grown

pub returns-in_err-heed-clause-end : goal.returns-in_err-heed-clause-end
returns-in_err-heed-clause-end g c =
    goes_on g.C.Service.never_fails g.C.Service.failures c.args.end.now c.loop.end c.heed.new.end c.loop.invariant.end c.in_err-heed.ensures.end
