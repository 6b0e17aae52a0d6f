use Rattle.std.proofs.Common.{◌≡◌, option_map}
use Rattle.std.specs.String.{string_bytes}
use Rattle.toml.specs.View.{members_view, table_view}
use Rattle.ing_limits.specs.Settings.{least_with, tenants_flawed, entries_of}
use Rattle.ing_limits.proofs.flaws.least_of_tenants.Given as goal

-- the least so far with the names to come is the least with all names
abbrev pub invariant-loop-tenant : goal.invariant-loop-tenant
invariant-loop-tenant l =
    least_with (option_map string_bytes l.found) (tenants_flawed l.flaw (entries_of (members_view l.tenant-iterator)))
    ≡ least_with (option_map string_bytes l.fn.least) (tenants_flawed l.flaw (entries_of (table_view l.tenants)))
