use Rattle.std.proofs.Common.{◌∙◌, ap, refl, sym, subst}
use Rattle.std.specs.Option.{unwrap_or}
use Rattle.std.specs.BTreeMap.{get_by_text}
use Rattle.ing_limits.specs.Ranges.{AreRulesInRange, rules_for}
use Rattle.ing_limits.proofs.Tenants.{held_get, none_held}
use Rattle.ing_limits.proofs.settings.Settings.for_tenant.Goals as goal

pub returns-then-is_empty-clause-rules : goal.returns-then-is_empty-clause-rules
returns-then-is_empty-clause-rules c =
    let tenant = c.args.tenant.now in
    sym (ap (λ o. unwrap_or o c.self.inside.rules) (none_held c.self.inside.tenants.entries tenant (c.if-is_empty.ensures.0 refl)))
    ∙ ap (λ s. rules_for s tenant) c.self.view_is

pub returns-then-is_empty-clause-range : goal.returns-then-is_empty-clause-range
returns-then-is_empty-clause-range c =
    let tenant = c.args.tenant.now in
    subst AreRulesInRange (ap (λ o. unwrap_or o c.self.inside.rules) (none_held c.self.inside.tenants.entries tenant (c.if-is_empty.ensures.0 refl))) (c.self.invariant.rules tenant)

pub returns-in-Some-clause-rules : goal.returns-in-Some-clause-rules
returns-in-Some-clause-rules c =
    let tenant = c.args.tenant.now in
    ap (λ o. unwrap_or o c.self.inside.rules) (c.in-Some.ensures.value ∙ ap (get_by_text c.self.inside.tenants) c.as_str.ensures.text ∙ sym (held_get c.self.inside.tenants tenant))
    ∙ ap (λ s. rules_for s tenant) c.self.view_is

pub returns-in-Some-clause-range : goal.returns-in-Some-clause-range
returns-in-Some-clause-range c =
    let tenant = c.args.tenant.now in
    subst AreRulesInRange (sym (ap (λ o. unwrap_or o c.self.inside.rules) (c.in-Some.ensures.value ∙ ap (get_by_text c.self.inside.tenants) c.as_str.ensures.text ∙ sym (held_get c.self.inside.tenants tenant)))) (c.self.invariant.rules tenant)

pub returns-in-None-clause-rules : goal.returns-in-None-clause-rules
returns-in-None-clause-rules c =
    let tenant = c.args.tenant.now in
    ap (λ o. unwrap_or o c.self.inside.rules) (c.in-None.ensures.value ∙ ap (get_by_text c.self.inside.tenants) c.as_str.ensures.text ∙ sym (held_get c.self.inside.tenants tenant))
    ∙ ap (λ s. rules_for s tenant) c.self.view_is

pub returns-in-None-clause-range : goal.returns-in-None-clause-range
returns-in-None-clause-range c =
    let tenant = c.args.tenant.now in
    subst AreRulesInRange (sym (ap (λ o. unwrap_or o c.self.inside.rules) (c.in-None.ensures.value ∙ ap (get_by_text c.self.inside.tenants) c.as_str.ensures.text ∙ sym (held_get c.self.inside.tenants tenant)))) (c.self.invariant.rules tenant)
