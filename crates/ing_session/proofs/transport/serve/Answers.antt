use Rattle.std.proofs.lemmas.Result.{err_from_is_err_and}
use Rattle.ing_session.specs.Unread.{is_ended, left}
use Rattle.ing_session.proofs.CausesLaws.{goes_on}
use Rattle.ing_session.proofs.FrontsLaws.{grows_on}
use Rattle.ing_session.proofs.StepsLaws.{ends, then_steps}
use Rattle.ing_session.proofs.transport.serve.Goals as goal

-- the next line is answered behind what the clock said
pub returns-clause-step : goal.returns-clause-step
returns-clause-step g c =
    let heeded = c.in_ok-heed_all.ensures in
    then_steps (heeded.step _ _ _) (c.serve_line.ensures.step (g.P.Ticker.said c.heed_all.new.ticker)) heeded.grown

pub returns-clause-grown : goal.returns-clause-grown
returns-clause-grown g c =
    let contents = g.W.Write.contents in
    grows_on (contents c.args.writer.now) (contents c.heed_all.new.writer) (contents c.serve_line.new.writer) c.in_ok-heed_all.ensures.grown c.serve_line.ensures.grown

pub returns-clause-end : goal.returns-clause-end
returns-clause-end g c =
    goes_on g.C.Service.never_fails g.C.Service.failures c.args.end.now c.heed_all.new.end c.serve_line.new.end c.in_ok-heed_all.ensures.end c.serve_line.ensures.end

-- the clock's was not done whole, or what was held back was not written
pub returns-in_err-heed_all-clause-step : goal.returns-in_err-heed_all-clause-step
returns-in_err-heed_all-clause-step g c =
    let p = err_from_is_err_and c.from_residual.result c.from_residual.ensures.1 in
    let rest = g.R.Read.remaining c.args.reader.now in
    ends p.1 p.2 (c.in_err-heed_all.ensures.step (is_ended c.args.lines.now) (left c.args.lines.now rest) rest).leads
