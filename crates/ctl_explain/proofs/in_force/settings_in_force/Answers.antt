use Rattle.std.proofs.Common.{Ok, sym, ap, ◌∙◌}
use Rattle.std.specs.Prelude.{is_ok}
use Rattle.toml.specs.Parse.{parse_document}
use Rattle.toml.specs.View.{table_view}
use Rattle.ing_limits.specs.Settings.{settings_of_document}
use Rattle.ctl_explain.proofs.FillLaws.{same_settings, settings_are, filled_is_whole}
use Rattle.ctl_explain.proofs.in_force.settings_in_force.Goals as goal

pub filled-requires : goal.filled-requires
filled-requires c = ap is_ok (ap settings_of_document (sym c.in_ok-table.ensures.table) ∙ c.in_ok-settings_in.ensures.settings)

pub returns-clause-shown : goal.returns-clause-shown
returns-clause-shown c =
    let text = c.args.text.now in
    let old = table_view c.in_ok-table.table in
    let settings = c.in_ok-settings_in.field-0 in
    let written = c.in_ok-shown.ensures in
    let given = settings_are text (parse_document text) old settings c.in_ok-table.ensures.table c.in_ok-settings_in.ensures.settings in (
      settings,
      c.in_ok-settings_in.ensures.settings,
      record {
        same = written.accepted ∙ ap (λ s. Ok s) (same_settings old written.new written.filled ∙ given);
        members = written.new;
        read = written.read;
        whole = filled_is_whole old written.new written.filled;
      },
    )
