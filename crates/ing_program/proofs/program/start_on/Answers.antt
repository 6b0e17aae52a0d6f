use Rattle.std.proofs.Common.{◌≡◌, ◌∙◌, ℕ, ap, inl, inr, refl}
use Rattle.std.proofs.lemmas.Result.{err_from_is_err_and}
use Rattle.ing_lanes.specs.Runs.{HasWritten, Seen}
use Rattle.ing_service.specs.Clocks.{heard_by}
use Rattle.ing_service.specs.Ends.{failures_in}
use Rattle.ing_program.specs.Starting.{manner_of}
use Rattle.ing_program.proofs.StartingLaws.{at_zero, none_failed, of_file, of_folder}
use Rattle.ing_program.proofs.program.start_on.Goals as goal

-- the ends of the store never fail: they have counted no failure before and none after
pub returns-clause-written : goal.returns-clause-written
returns-clause-written g c =
    let settings = c.in_ok-settings.settings in
    let ended = c.run.new in
    let first = failures_in (λ end. end.failures) c.of-ends.result in
    let last = failures_in (λ end. end.failures) ended.ends in
    let fresh : first ≡ 0 = none_failed _ _ first c.of-ends.ensures.failures (ap (λ end. end.failures) c.end.ensures) c.in_ok-others.ensures.fresh in
    let sure = c.run.ensures.end.1 (c.of-ends.ensures.sure (ap (λ end. end.fuse) c.end.ensures) c.in_ok-others.ensures.sure) in
    let seen : ℕ → ℕ → Seen = λ before after. record {
      input = g.R.Read.remaining c.args.reader.now;
      rest = g.R.Read.remaining ended.reader;
      ticks = heard_by settings (g.P.Ticker.said ended.ticker);
      before = before;
      after = after;
      old = g.W.Write.contents c.args.writer.now;
      new = g.W.Write.contents ended.writer;
    } in
    inr (settings, c.in_ok-settings.ensures.settings, at_zero (λ before after. HasWritten (manner_of settings) settings (seen before after) c.run.result) first last fresh (sure.1 ∙ fresh) c.run.ensures.written)

-- ---- it ends before it begins

pub returns-in_err-settings-clause-written : goal.returns-in_err-settings-clause-written
returns-in_err-settings-clause-written g c =
    let p = err_from_is_err_and c.from_residual.result c.from_residual.ensures.1 in
    inl (of_file c.args.writer.now _ p.0 _ p.1 p.2 c.in_err-settings.ensures.memory)

pub returns-in_err-store-clause-written : goal.returns-in_err-store-clause-written
returns-in_err-store-clause-written g c =
    let p = err_from_is_err_and c.from_residual-in_err-store.result c.from_residual-in_err-store.ensures.1 in
    inl (of_folder c.args.writer.now _ p.0 _ p.1 p.2 (inl refl))

pub returns-in_err-others-clause-written : goal.returns-in_err-others-clause-written
returns-in_err-others-clause-written g c =
    let p = err_from_is_err_and c.from_residual-in_err-others.result c.from_residual-in_err-others.ensures.1 in
    inl (of_folder c.args.writer.now _ p.0 _ p.1 p.2 (inl refl))

pub returns-in_err-set_periods-clause-written : goal.returns-in_err-set_periods-clause-written
returns-in_err-set_periods-clause-written g c =
    let p = err_from_is_err_and c.from_residual-in_err-set_periods.result c.from_residual-in_err-set_periods.ensures.1 in
    inl (of_folder c.args.writer.now _ p.0 _ p.1 p.2 (inl refl))
