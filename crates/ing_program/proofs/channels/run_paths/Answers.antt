use Rattle.std.proofs.Common.{◌≤◌, ◌∙◌, ap, inl, inr, subst, sym}
use Rattle.std.proofs.lemmas.Result.{IfErr-weaker, MatchResult-weaker, on_ok_weaker}
use Rattle.ing_lanes.specs.Endings.{refusal_of}
use Rattle.ing_lanes.specs.Served.{broken_in, has_broken}
use Rattle.ing_program.proofs.ChannelsLaws.{each_is_served, no_more_pass}
use Rattle.ing_program.proofs.channels.run_paths.Goals as goal

pub returns-in-Ok-clause-output : goal.returns-in-Ok-clause-output
returns-in-Ok-clause-output g c =
    let ended = c.in-Ok.ended in
    let served = c.in-Ok.ensures.served in
    let each = each_is_served _ c.args.lines.items ended.lines.items served.0 served.1 in
    on_ok_weaker c.report.result
    (λ told. record {
      earlier = g.N.NodeName.earlier;
      accounts = served.0;
      broken = broken_in ended.lines.items;
      reports = ended.reports.items;
      all = each.0 ∙ sym c.args.lines.ok.0;
      few = subst (λ n. broken_in ended.lines.items ≤ n) (each.1 ∙ sym c.args.lines.ok.0) (no_more_pass (λ line. has_broken line.ended) ended.lines.items);
      adds_up = served.2;
      told = told;
    })
    c.report.ensures.output

pub returns-in-Ok-clause-words : goal.returns-in-Ok-clause-words
returns-in-Ok-clause-words g c =
    MatchResult-weaker c.report.result c.report.ensures.ending (λ _ known. known)
    (λ e known bad. elim known [ inl memory ↦ absurd (cc (memory, bad)) | inr output ↦ absurd (cc (output, bad)) ])

-- a report is not refused as settings are
pub returns-in-Ok-clause-refused : goal.returns-in-Ok-clause-refused
returns-in-Ok-clause-refused g c =
    IfErr-weaker c.report.result _ _ (λ e known. elim known [ inl memory ↦ ap refusal_of memory | inr output ↦ ap refusal_of output ]) c.report.ensures.ending
