use Rattle.std.proofs.Common.{◌≡◌, true, map, ap, ◌∙◌}
use Rattle.std.specs.List.{list_all}
use Rattle.toml.specs.View.{table_view}
use Rattle.ing_limits.specs.Settings.{settings_of_table, settings_of_document}
use Rattle.ing_limits.specs.declared.keys.Level.TheVariants.{Top}
use Rattle.ctl_explain.specs.InForce.{FillsIn, default_members, given_member, is_good, is_setting}
use Rattle.ctl_explain.proofs.FillLaws.{same-tenants}
use Rattle.ctl_explain.proofs.Flawless.{ok_is, given_settings_are_plain, filled_is_accepted, defaults_are_good, defaults_are_settings}
use Rattle.ctl_explain.proofs.in_force.filled.Goals as goal

pub written-requires : goal.written-requires
written-requires c =
    let given = ok_is (settings_of_table (table_view c.args.table)) c.requires in
    let passed : list_all (λ e. is_setting e.0 e.1) (map given_member c.defaults.result.now) ≡ true = ap (list_all (λ e. is_setting e.0 e.1)) c.defaults.ensures ∙ defaults_are_settings in
    c.in_ok-fill.ensures.kept is_setting (given_settings_are_plain (table_view c.args.table) given.0 given.1 c.keys_differ.ensures) passed

pub returns : goal.returns
returns c =
    let old = table_view c.args.table in
    let new = table_view c.fill.new.table in
    let given = ok_is (settings_of_table old) c.requires in
    let passed : list_all (λ e. is_good Top e.0 e.1) (map given_member c.defaults.result.now) ≡ true = ap (list_all (λ e. is_good Top e.0 e.1)) c.defaults.ensures ∙ defaults_are_good in
    let fills : FillsIn default_members old new = rw c.defaults.ensures at c.in_ok-fill.ensures.filled in
    record {
      new = new;
      filled = fills;
      read = c.in_ok-text.ensures;
      accepted = ap settings_of_document c.in_ok-text.ensures
          ∙ filled_is_accepted old new given.0 given.1 (λ good. c.in_ok-fill.ensures.kept (is_good Top) good passed) (same-tenants old new fills);
    }
