use Rattle.std.proofs.Common.{codes, ◌++◌, option_map, string_bytes, ap, sym, ◌∙◌}
use Rattle.toml.specs.View.{view, table_view, members_view}
use Rattle.ing_limits.specs.Settings.{least_with, tenants_flawed, entries_of}
use Rattle.ing_limits.proofs.Least.{tenant_step}
use Rattle.ing_limits.proofs.flaws.least_of_tenants.Goals as goal

pub loop-tenant-preserved-in-Some-as_table : goal.loop-tenant-preserved-in-Some-as_table
loop-tenant-preserved-in-Some-as_table c =
    tenant_step c.args.flaw (option_map string_bytes c.loop-tenant.found) (option_map string_bytes c.in_ok-found.found) (string_bytes c.in-Some.tenant.now) c.as_str-in-Some-as_table.result.now (view c.in-Some.value.now)
    (table_view c.in-Some-as_table.table.now) (members_view c.next.new.self) c.in-Some-as_table.ensures
    (c.as_str-in-Some-as_table.ensures.value ∙ c.in_ok-prefix.ensures ∙ ap (λ t. (codes "tenants." ++ t) ++ codes ".") c.as_str.ensures.value) c.in_ok-found.ensures
    ∙ ap (λ es. least_with (option_map string_bytes c.loop-tenant.found) (tenants_flawed c.args.flaw (entries_of (members_view es)))) (sym c.in-Some.ensures.steps)
    ∙ c.loop-tenant.invariant
