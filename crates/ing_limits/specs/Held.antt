-- How a `Settings` holds its settings.
use Rattle.std.specs.Prelude.{◌≡◌, ℕ, List, map, String, string_bytes}
use Rattle.std.specs.Ordering.{nat_cmp}
use Rattle.std.specs.Cmp.Lexicographic.{slice_cmp}
use Rattle.std.specs.FinMap.{from_entries, find}
use Rattle.std.specs.BTreeMap.{BTreeMap, get_by_text}
use Rattle.ing_rows.specs.declared.rules.Rules.{Rules}
use Rattle.ing_limits.specs.Settings.{StoreSettings}
use Rattle.ing_limits.specs.Ranges.{AreInRange}
use Rattle.ing_limits.specs.declared.settings.Settings.TheInside.{Inside}

-- the bytes of each tenant id, with the tenant's rules
abbrev pub held_tenants : {Z : Type 0} → List (String Z × Rules) → List (List ℕ × Rules)
held_tenants = map (λ e. (string_bytes e.0, e.1))

-- each tenant is found with the first rules that the list has for it
abbrev pub IsTenantRules : {Z : Type 0} → List (List ℕ × Rules) → BTreeMap (String Z) Rules → Type 0
IsTenantRules tenants held = (tenant : List ℕ) → get_by_text held tenant ≡ find (slice_cmp nat_cmp) tenant tenants

abbrev pub held_settings : Inside → StoreSettings
held_settings a = record {
  shards = a.shards;
  flushers = a.flushers;
  flush_queue_length = a.flush_queue_length;
  flush_check_period = a.flush_check_period;
  checkpoint_log_size = a.checkpoint_log_size;
  diaries = a.diaries;
  rules = a.rules;
  tenants = from_entries (held_tenants a.tenants.entries);
}

-- all settings lie in their ranges
abbrev pub IsHeld : Inside → Type 0
IsHeld a = AreInRange (held_settings a)
