use Rattle.std.proofs.Common.{◌≡◌, ℕ, List, nat_cmp}
use Rattle.std.specs.Cmp.Lexicographic.{slice_cmp}
use Rattle.std.specs.Option.{option_or}
use Rattle.std.specs.FinMap.{find}
use Rattle.std.specs.BTreeMap.{get_by_text}
use Rattle.toml.specs.View.{members_view, table_view}
use Rattle.ing_limits.specs.Settings.{rules_by_tenant, entries_of}
use Rattle.ing_limits.proofs.settings.tenants_of.Given as goal

-- a tenant is found among those so far, or else among those to come
abbrev pub invariant-loop-name : goal.invariant-loop-name
invariant-loop-name l =
    (tenant : List ℕ) → option_or (get_by_text l.held tenant) (find (slice_cmp nat_cmp) tenant (rules_by_tenant l.common (entries_of (members_view l.name-iterator))))
    ≡ find (slice_cmp nat_cmp) tenant (rules_by_tenant l.common (entries_of (table_view l.tenants)))
