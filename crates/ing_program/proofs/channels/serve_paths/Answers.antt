use Rattle.std.proofs.Common.{◌≡◌, ◌≢◌, ◌+◌, ◌*◌, ℕ, Err, IfErr, List, Ok, OnOk, Option, ap, inl, inr, length, subst, sym, vec_len}
use Rattle.std.specs.Prelude.{IfSome}
use Rattle.std.proofs.lemmas.Result.{IfErr-weaker, err_from_is_err_and, on_ok_weaker}
use Rattle.ing_limits.specs.Settings.{StoreSettings}
use Rattle.ing_lanes.specs.Ending.{Ending}
use Rattle.ing_lanes.specs.Ending.TheVariants.{BadArguments, OutputFault}
use Rattle.ing_lanes.specs.Endings.{ending_of_recover, refusal_of}
use Rattle.ing_program.specs.Channels.{ReportsChannels, ReportsPaths, clock_count}
use Rattle.ing_program.specs.Starting.{started_by}
use Rattle.ing_program.proofs.ChannelsLaws.{beside_the_clock, none_passed, none_refused, not_of_words, refused_by_none}
use Rattle.ing_program.proofs.channels.serve_paths.Goals as goal
use Rattle.ing_program.proofs.channels.serve_paths.Goals.{in-Ok, in-Err}

pub returns-clause-output : goal.returns-clause-output
returns-clause-output g c =
    let contents = g.W.Write.contents in
    let old = contents c.args.writer.now in
    let settings = c.in_ok-settings.settings in
    let paths = length c.args.paths.now in
    let count = vec_len c.add_lines.new.lines in
    let counts = beside_the_clock count (clock_count settings) paths (subst (λ k. 2 * count ≡ 2 * k + paths) c.in_ok-lines.ensures.count c.in_ok-add_lines.ensures.pairs) in
    let Says : Option (List ℕ) → Type 0 = λ new. (x : StoreSettings) × (started_by c.args.file.now ≡ Ok x) × ReportsPaths x paths old new in
    elim c.match-recover.branch [
      | in-Ok w ↦
          let new = contents w.run_paths-ended.new.writer in
          subst (λ e. OnOk e (Says (contents c.match-recover.writer))) (sym w.ended-is)
          (subst (λ v. OnOk w.run_paths-ended.result (Says (contents v))) (sym w.writer-is)
          (on_ok_weaker w.run_paths-ended.result
          (λ reported. (
            settings,
            c.in_ok-settings.ensures.settings,
            record {
              pairs = _;
              all = counts.0;
              reported = subst (λ n. ReportsChannels settings n old new) (sym counts.1) (subst (λ s. ReportsChannels s count old new) w.in-Ok.ensures.settings reported);
            },
          ))
          w.run_paths-ended.ensures.output))
      | in-Err w ↦ subst (λ e. OnOk e (Says (contents c.match-recover.writer))) (sym w.ended-is) tt
    ]

pub returns-clause-words : goal.returns-clause-words
returns-clause-words g c =
    elim c.match-recover.branch [
      | in-Ok w ↦ subst (λ r. IfErr r (λ e. e ≢ BadArguments)) (sym w.ended-is) w.run_paths-ended.ensures.words
      | in-Err w ↦ subst (λ r. IfErr r (λ e. e ≢ BadArguments)) (sym w.ended-is) (subst (λ e. e ≢ BadArguments) (sym w.from.ensures) (not_of_words w.in-Err.fault))
    ]

pub returns-clause-silent : goal.returns-clause-silent
returns-clause-silent g c =
    elim c.match-recover.branch [
      | in-Ok w ↦ subst (λ r. IfErr r (λ e. e ≢ OutputFault → c.match-recover.writer ≡ c.args.writer.now)) (sym w.ended-is)
          (subst (λ v. IfErr w.run_paths-ended.result (λ e. e ≢ OutputFault → v ≡ c.args.writer.now)) (sym w.writer-is) w.run_paths-ended.ensures.silent)
      | in-Err w ↦ subst (λ r. IfErr r (λ e. e ≢ OutputFault → c.match-recover.writer ≡ c.args.writer.now)) (sym w.ended-is) (λ _. w.writer-is)
    ]

-- what ends the run behind the settings is nothing that these are refused for
pub returns-clause-refused : goal.returns-clause-refused
returns-clause-refused g c =
    let Says : Ending → Type 0 = λ e. IfSome (refusal_of e) (λ refusal. started_by c.args.file.now ≡ Err refusal) in
    elim c.match-recover.branch [
      | in-Ok w ↦ subst (λ r. IfErr r Says) (sym w.ended-is) (IfErr-weaker w.run_paths-ended.result _ Says (λ e none. refused_by_none _ e none) w.run_paths-ended.ensures.refused)
      | in-Err w ↦ subst (λ r. IfErr r Says) (sym w.ended-is) (subst Says (sym w.from.ensures) (refused_by_none _ (ending_of_recover w.in-Err.fault) (none_refused w.in-Err.fault)))
    ]

pub returns-in_err-flushers-clause-refused : goal.returns-in_err-flushers-clause-refused
returns-in_err-flushers-clause-refused g c =
    let r = c.from_residual-in_err-flushers in
    let p = err_from_is_err_and r.result r.ensures.1 in
    none_passed _ r.result p.0 _ p.1 p.2 (elim c.in_err-flushers.ensures.ending [ inl memory ↦ ap refusal_of memory | inr folder ↦ ap refusal_of folder ])

pub returns-in_err-reader-clause-refused : goal.returns-in_err-reader-clause-refused
returns-in_err-reader-clause-refused g c =
    let r = c.from_residual-in_err-reader in
    let p = err_from_is_err_and r.result r.ensures.1 in
    none_passed _ r.result p.0 _ p.1 p.2 (elim c.in_err-reader.ensures.ending [ inl memory ↦ ap refusal_of memory | inr folder ↦ ap refusal_of folder ])

pub returns-in_err-begin-clause-refused : goal.returns-in_err-begin-clause-refused
returns-in_err-begin-clause-refused g c =
    let r = c.from_residual-in_err-begin in
    let p = err_from_is_err_and r.result r.ensures.1 in
    none_passed _ r.result p.0 _ p.1 p.2 (elim c.in_err-begin.ensures.ending [ inl memory ↦ ap refusal_of memory | inr folder ↦ ap refusal_of folder ])
