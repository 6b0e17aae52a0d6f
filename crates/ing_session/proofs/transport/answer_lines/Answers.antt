use Rattle.std.proofs.Common.{arith, refl}
use Rattle.std.proofs.lemmas.Result.{err_from_is_err_and}
use Rattle.ing_session.proofs.CausesLaws.{goes_on}
use Rattle.ing_session.proofs.FrontsLaws.{grows_none, grows_on}
use Rattle.ing_session.proofs.StepsLaws.{alike, ends, then_steps}
use Rattle.ing_session.proofs.transport.answer_lines.Goals as goal

pub loop-line-init : goal.loop-line-init
loop-line-init g c = record {
  step = record { leads = λ began serves. serves };
  grown = grows_none (g.W.Write.contents c.args.writer.now);
  end = (omega arith, λ sure. (sure, refl));
}

pub returns-in_err-serve-clause-end : goal.returns-in_err-serve-clause-end
returns-in_err-serve-clause-end g c =
    goes_on g.C.Service.never_fails g.C.Service.failures c.args.end.now c.loop-line.end c.serve.new.end c.loop-line.invariant.end c.in_err-serve.ensures.end

pub returns-then-not-branch-clause-end : goal.returns-then-not-branch-clause-end
returns-then-not-branch-clause-end g c =
    goes_on g.C.Service.never_fails g.C.Service.failures c.args.end.now c.loop-line.end c.serve.new.end c.loop-line.invariant.end c.in_ok-serve.ensures.end

pub returns-in_err-serve-clause-grown : goal.returns-in_err-serve-clause-grown
returns-in_err-serve-clause-grown g c =
    let contents = g.W.Write.contents in
    grows_on (contents c.args.writer.now) (contents c.loop-line.writer) (contents c.serve.new.writer) c.loop-line.invariant.grown c.in_err-serve.ensures.grown

pub returns-then-not-branch-clause-grown : goal.returns-then-not-branch-clause-grown
returns-then-not-branch-clause-grown g c =
    let contents = g.W.Write.contents in
    grows_on (contents c.args.writer.now) (contents c.loop-line.writer) (contents c.serve.new.writer) c.loop-line.invariant.grown c.in_ok-serve.ensures.grown

-- one line more is answered
pub loop-line-preserved : goal.loop-line-preserved
loop-line-preserved g c =
    let contents = g.W.Write.contents in
    let before = c.loop-line in
    let new = c.serve.new in
    record {
      step = alike c.if-not-branch.false (then_steps before.invariant.step c.in_ok-serve.ensures.step before.invariant.grown);
      grown = grows_on (contents c.args.writer.now) (contents before.writer) (contents new.writer) before.invariant.grown c.in_ok-serve.ensures.grown;
      end = goes_on g.C.Service.never_fails g.C.Service.failures c.args.end.now before.end new.end before.invariant.end c.in_ok-serve.ensures.end;
    }

-- there was no line
pub returns-then-not-branch-clause-step : goal.returns-then-not-branch-clause-step
returns-then-not-branch-clause-step g c =
    alike c.if-not-branch.true (then_steps c.loop-line.invariant.step c.in_ok-serve.ensures.step c.loop-line.invariant.grown)

-- it ends early
pub returns-in_err-serve-clause-step : goal.returns-in_err-serve-clause-step
returns-in_err-serve-clause-step g c =
    let p = err_from_is_err_and c.from_residual.result c.from_residual.ensures.1 in
    then_steps c.loop-line.invariant.step (ends p.1 p.2 c.in_err-serve.ensures.step.leads) c.loop-line.invariant.grown
