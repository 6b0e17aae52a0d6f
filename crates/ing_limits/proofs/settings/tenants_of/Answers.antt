use Rattle.std.proofs.Common.{◌≡◌, ◌∷◌, ◌∙◌, ap, sym}
use Rattle.std.specs.Prelude.{string_bytes}
use Rattle.std.specs.Option.{option_or}
use Rattle.std.specs.Ordering.{nat_cmp}
use Rattle.std.specs.Cmp.Lexicographic.{slice_cmp}
use Rattle.std.specs.BTreeMap.{get_by_text}
use Rattle.std.specs.FinMap.{find}
use Rattle.toml.specs.View.{members_view}
use Rattle.ing_limits.specs.Settings.{rules_by_tenant, entries_of}
use Rattle.ing_limits.proofs.Tenants.{one_more}
use Rattle.ing_limits.proofs.settings.tenants_of.Goals as goal

pub loop-name-preserved : goal.loop-name-preserved
loop-name-preserved c = λ tenant.
    let common = c.args.common.now in
    let rest = rules_by_tenant common (entries_of (members_view c.next.new.self)) in
    let steps : c.loop-name.name-iterator ≡ (c.in-Some.name.now, c.in-Some.value.now) ∷ c.next.new.self = c.in-Some.ensures.steps in
    let name : string_bytes c.in_ok-tenant.tenant ≡ string_bytes c.in-Some.name.now = c.in_ok-tenant.ensures.ok ∙ c.as_str.ensures.value in
    let this : rules_by_tenant common (entries_of (members_view c.loop-name.name-iterator)) ≡ (string_bytes c.in_ok-tenant.tenant, c.rules_in.result) ∷ rest =
    ap (λ es. rules_by_tenant common (entries_of (members_view es))) steps ∙ (λ i. (sym name i, sym c.rules_in.ensures i) ∷ rest) in
    one_more tenant (string_bytes c.in_ok-tenant.tenant) c.rules_in.result rest (get_by_text c.loop-name.held tenant) _ _
    (c.in_ok-put_rules.ensures tenant)
    (ap (λ ts. option_or (get_by_text c.loop-name.held tenant) (find (slice_cmp nat_cmp) tenant ts)) (sym this) ∙ c.loop-name.invariant tenant)
