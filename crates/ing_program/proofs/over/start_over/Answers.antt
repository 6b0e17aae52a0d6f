use Rattle.std.proofs.Common.{◌≡◌, ℕ, inl, inr, refl, subst}
use Rattle.std.proofs.lemmas.Result.{err_from_is_err_and}
use Rattle.ing_service.specs.ByShards.{by_shards}
use Rattle.ing_service.specs.Clocks.{heard_by}
use Rattle.ing_service.specs.Ends.{failures_in}
use Rattle.ing_lanes.specs.Runs.{HasWritten, Seen}
use Rattle.ing_program.proofs.StartingLaws.{none_failed, of_file, of_folder}
use Rattle.ing_program.proofs.over.start_over.Goals as goal

pub returns-clause-written : goal.returns-clause-written
returns-clause-written g c =
    let settings = c.in_ok-settings.settings in
    let honest = g.E.StoreEnd.is_honest in
    let ended = c.run_over-ended.new in
    let first = failures_in g.E.StoreEnd.failure_count c.of-ends.result in
    let last = failures_in g.E.StoreEnd.failure_count ended.ends in
    let none : first ≡ 0 = none_failed _ _ first c.of-ends.ensures.failures c.in_ok-own.ensures.fresh c.in_ok-others.ensures.fresh in
    let seen : ℕ → Seen = λ before. record {
      input = g.R.Read.remaining c.args.reader.now;
      rest = g.R.Read.remaining ended.reader;
      ticks = heard_by settings (g.P.Ticker.said ended.ticker);
      before = before;
      after = last;
      old = g.W.Write.contents c.args.writer.now;
      new = g.W.Write.contents ended.writer;
    } in
    elim c.run_over-ended.ensures.written [
      | inl same ↦ inl same
      | inr (begun, begins, written) ↦
          inr (settings, c.in_ok-settings.ensures.settings, (begun, begins.logged, last, subst (λ n. HasWritten (by_shards honest begun) settings (seen n) c.run_over-ended.result) none written))
    ]

-- ---- it ends before it begins

pub returns-in_err-settings-clause-written : goal.returns-in_err-settings-clause-written
returns-in_err-settings-clause-written g c =
    let p = err_from_is_err_and c.from_residual.result c.from_residual.ensures.1 in
    inl (of_file c.args.writer.now _ p.0 _ p.1 p.2 c.in_err-settings.ensures.memory)

pub returns-in_err-hold-clause-written : goal.returns-in_err-hold-clause-written
returns-in_err-hold-clause-written g c =
    let p = err_from_is_err_and c.from_residual-in_err-hold.result c.from_residual-in_err-hold.ensures.1 in
    inl (of_folder c.args.writer.now _ p.0 _ p.1 p.2 c.in_err-hold.ensures.ending)

pub returns-in_err-logs-clause-written : goal.returns-in_err-logs-clause-written
returns-in_err-logs-clause-written g c =
    let p = err_from_is_err_and c.from_residual-in_err-logs.result c.from_residual-in_err-logs.ensures.1 in
    inl (of_folder c.args.writer.now _ p.0 _ p.1 p.2 (elim c.in_err-logs.ensures.ending [ inl memory ↦ inl memory | inr none ↦ inr (inl none) ]))

pub returns-in_err-objects-clause-written : goal.returns-in_err-objects-clause-written
returns-in_err-objects-clause-written g c =
    let p = err_from_is_err_and c.from_residual-in_err-objects.result c.from_residual-in_err-objects.ensures.1 in
    inl (of_folder c.args.writer.now _ p.0 _ p.1 p.2 (inl refl))

pub returns-in_err-own-clause-written : goal.returns-in_err-own-clause-written
returns-in_err-own-clause-written g c =
    let p = err_from_is_err_and c.from_residual-in_err-own.result c.from_residual-in_err-own.ensures.1 in
    inl (of_folder c.args.writer.now _ p.0 _ p.1 p.2 (elim c.in_err-own.ensures.ending [ inl memory ↦ inl memory | inr none ↦ inr (inr (inl none)) ]))

pub returns-in_err-others-clause-written : goal.returns-in_err-others-clause-written
returns-in_err-others-clause-written g c =
    let p = err_from_is_err_and c.from_residual-in_err-others.result c.from_residual-in_err-others.ensures.1 in
    inl (of_folder c.args.writer.now _ p.0 _ p.1 p.2 (elim c.in_err-others.ensures.ending [ inl memory ↦ inl memory | inr none ↦ inr (inr (inl none)) ]))

pub returns-in_err-finders-clause-written : goal.returns-in_err-finders-clause-written
returns-in_err-finders-clause-written g c =
    let p = err_from_is_err_and c.from_residual-in_err-finders.result c.from_residual-in_err-finders.ensures.1 in
    inl (of_folder c.args.writer.now _ p.0 _ p.1 p.2 (elim c.in_err-finders.ensures.ending [ inl memory ↦ inl memory | inr none ↦ inr (inr (inl none)) ]))

pub returns-in_err-begin-clause-written : goal.returns-in_err-begin-clause-written
returns-in_err-begin-clause-written g c =
    let p = err_from_is_err_and c.from_residual-in_err-begin.result c.from_residual-in_err-begin.ensures.1 in
    inl (of_folder c.args.writer.now _ p.0 _ p.1 p.2 (elim c.in_err-begin.ensures.ending [ inl memory ↦ inl memory | inr none ↦ inr (inl none) ]))

pub returns-in_err-set_periods-clause-written : goal.returns-in_err-set_periods-clause-written
returns-in_err-set_periods-clause-written g c =
    let p = err_from_is_err_and c.from_residual-in_err-set_periods.result c.from_residual-in_err-set_periods.ensures.1 in
    inl (of_folder c.args.writer.now _ p.0 _ p.1 p.2 (inl refl))
