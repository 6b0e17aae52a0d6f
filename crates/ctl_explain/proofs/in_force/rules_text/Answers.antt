use Rattle.std.proofs.Common.{◌≡◌, map, string_bytes, sym, ap, ◌∙◌}
use Rattle.toml.specs.Data.{no_members}
use Rattle.toml.specs.View.{table_view, members_view}
use Rattle.ing_limits.specs.Settings.{settings_in, settings_of_document}
use Rattle.ing_limits.specs.declared.keys.Level.TheVariants.{Top}
use Rattle.ctl_explain.specs.InForce.{rule_members, given_member, is_good, is_setting}
use Rattle.ctl_explain.proofs.RuleLaws.{rules_for_all, rules_accepted, rules_are_whole, rules_are_good, rules_are_settings, fills_rules, passes_rules}
use Rattle.ctl_explain.proofs.in_force.rules_text.Goals as goal

pub written-requires : goal.written-requires
written-requires c =
    let r = c.args.rules.now in
    let idle = string_bytes c.in_ok-idle.idle in
    let age = string_bytes c.in_ok-age.age in
    let given = map given_member c.rule_givens-givens.result in
    let is : given ≡ rule_members r idle age = rw (sym c.as_str.ensures.value, sym c.as_str-2.ensures.value) c.rule_givens-givens.ensures in
    passes_rules is_setting given (rule_members r idle age) (table_view c.new-table.result) (table_view c.fill.new.table) is (ap members_view c.new-table.ensures.empty)
    (c.in_ok-fill.ensures.kept is_setting) (rules_are_settings r idle age)

pub returns : goal.returns
returns c =
    let r = c.args.rules.now in
    let idle = string_bytes c.in_ok-idle.idle in
    let age = string_bytes c.in_ok-age.age in
    let old = table_view c.new-table.result in
    let new = table_view c.fill.new.table in
    let given = map given_member c.rule_givens-givens.result in
    let is : given ≡ rule_members r idle age = rw (sym c.as_str.ensures.value, sym c.as_str-2.ensures.value) c.rule_givens-givens.ensures in
    let empty : old ≡ no_members = ap members_view c.new-table.ensures.empty in
    let fills = fills_rules given (rule_members r idle age) old new is empty c.in_ok-fill.ensures.filled in
    let good = passes_rules (is_good Top) given (rule_members r idle age) old new is empty (c.in_ok-fill.ensures.kept (is_good Top))
    (rules_are_good r idle age c.requires c.in_ok-idle.ensures c.in_ok-age.ensures) in
    record {
      settings = settings_in new;
      accepted = ap settings_of_document c.in_ok-text.ensures ∙ rules_accepted r idle age new fills good;
      same = λ tenant. rules_for_all r idle age new tenant c.requires c.in_ok-idle.ensures c.in_ok-age.ensures fills;
      members = new;
      read = c.in_ok-text.ensures;
      whole = rules_are_whole r idle age new fills;
    }
