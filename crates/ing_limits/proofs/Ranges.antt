-- Settings lie in their ranges.
use Rattle.std.proofs.Common.{◌≡◌, ℕ, ◌<◌, ◌≤◌, ◌^◌, ◌&&◌, nat_le, nat_lt, nat_cmp, pos, negsuc, Bool, true, false, cond, List, [], ◌∷◌, codes, Option, Some, None, option_and_then, refl, sym, subst, arith}
use Rattle.std.specs.Option.{unwrap_or}
use Rattle.std.specs.FinMap.{find, get-from_entries}
use Rattle.std.specs.Ordering.{eq_by_cmp}
use Rattle.std.specs.Cmp.Lexicographic.{slice_cmp}
use Rattle.std.proofs.lemmas.Cmp.{nat_list_cmp_total}
use Rattle.std.proofs.lemmas.Bool.Decides.{nat_tests}
use Rattle.ing_rows.specs.Defaults.{defaults}
use Rattle.ing_rows.specs.declared.rules.Rules.{Rules}
use Rattle.toml.specs.Data.{Data, Members, string, integer, float, boolean, datetime, array, table, get_member}
use Rattle.ing_limits.specs.Durations.{parts_sum, capped}
use Rattle.ing_limits.specs.Settings.{setting, number_of, kind_of, limits_in, common_rules, rules_by_tenant, settings_in, members_in, members_at, entries_of}
use Rattle.ing_limits.specs.Ranges.{IsUpTo, AreLimitsInRange, AreRulesInRange, AreSizesOf, AreInRange}
use Rattle.ing_limits.specs.declared.keys.Kind.TheVariants.{Whole, UpTo, Duration}
use Rattle.ing_limits.specs.declared.keys.Level.{Level}
use Rattle.ing_limits.specs.declared.keys.Level.TheVariants.{Top, Tenant}
use Rattle.ing_limits.proofs.Numbers.{number_from}

tested : (most default n : ℕ) (b : Bool) → b ≡ (nat_le 1 n && nat_le n most) → IsUpTo most default → IsUpTo most (unwrap_or (cond b (Some n) None) default)
tested most default n true e h = both e where
  both : true ≡ (nat_le 1 n && nat_le n most) → (1 ≤ n) × (n ≤ most)
  both e = grind (arith, nat_tests)
tested most default n false e h = h

whole_value : (most default : ℕ) (d : Data) → IsUpTo most default → IsUpTo most (unwrap_or (number_of (Whole most) d) default)
whole_value most default (integer (pos n)) h = tested most default n _ refl h
whole_value most default (integer (negsuc n)) h = h
whole_value most default (string s) h = h
whole_value most default (float x) h = h
whole_value most default (boolean b) h = h
whole_value most default (datetime t) h = h
whole_value most default (array a) h = h
whole_value most default (table ms) h = h

whole_found : (most default : ℕ) (found : Option Data) → IsUpTo most default → IsUpTo most (number_from found (Some (Whole most)) default)
whole_found most default None h = h
whole_found most default (Some d) h = whole_value most default d h

pub whole_setting : (level : Level) (key : List ℕ) (default most : ℕ) (ms : Members) → Some (Whole most) ≡ kind_of level key → IsUpTo most default → IsUpTo most (setting level key default ms)
whole_setting level key default most ms kind h =
    subst (λ k. IsUpTo most (number_from (get_member key ms) k default)) kind (whole_found most default (get_member key ms) h)

not_above : (most default n : ℕ) (b : Bool) → b ≡ nat_le n most → default ≤ most → unwrap_or (cond b (Some n) None) default ≤ most
not_above most default n true e h = within e where
  within : true ≡ nat_le n most → n ≤ most
  within e = grind (arith, nat_tests)
not_above most default n false e h = h

up_to_value : (most default : ℕ) (d : Data) → default ≤ most → unwrap_or (number_of (UpTo most) d) default ≤ most
up_to_value most default (integer (pos n)) h = not_above most default n _ refl h
up_to_value most default (integer (negsuc n)) h = h
up_to_value most default (string s) h = h
up_to_value most default (float x) h = h
up_to_value most default (boolean b) h = h
up_to_value most default (datetime t) h = h
up_to_value most default (array a) h = h
up_to_value most default (table ms) h = h

up_to_found : (most default : ℕ) (found : Option Data) → default ≤ most → number_from found (Some (UpTo most)) default ≤ most
up_to_found most default None h = h
up_to_found most default (Some d) h = up_to_value most default d h

pub up_to_setting : (level : Level) (key : List ℕ) (default most : ℕ) (ms : Members) → Some (UpTo most) ≡ kind_of level key → default ≤ most → setting level key default ms ≤ most
up_to_setting level key default most ms kind h =
    subst (λ k. number_from (get_member key ms) k default ≤ most) kind (up_to_found most default (get_member key ms) h)

below_cap : (default n : ℕ) (b : Bool) → b ≡ nat_lt n (2 ^ 63) → default < 2 ^ 63 → unwrap_or (cond b (Some n) None) default < 2 ^ 63
below_cap default n true e h = short e where
  short : true ≡ nat_lt n 9223372036854775808 → n < 9223372036854775808
  short e = grind (arith, nat_tests)
below_cap default n false e h = h

capped_sum : (default : ℕ) (sum : Option ℕ) → default < 2 ^ 63 → unwrap_or (option_and_then capped sum) default < 2 ^ 63
capped_sum default None h = h
capped_sum default (Some n) h = below_cap default n _ refl h

duration_value : (default : ℕ) (d : Data) → default < 2 ^ 63 → unwrap_or (number_of Duration d) default < 2 ^ 63
duration_value default (string s) h = capped_sum default (parts_sum _ s) h
duration_value default (integer z) h = h
duration_value default (float x) h = h
duration_value default (boolean b) h = h
duration_value default (datetime t) h = h
duration_value default (array a) h = h
duration_value default (table ms) h = h

duration_found : (default : ℕ) (found : Option Data) → default < 2 ^ 63 → number_from found (Some Duration) default < 2 ^ 63
duration_found default None h = h
duration_found default (Some d) h = duration_value default d h

pub duration_setting : (level : Level) (key : List ℕ) (default : ℕ) (ms : Members) → Some Duration ≡ kind_of level key → default < 2 ^ 63 → setting level key default ms < 2 ^ 63
duration_setting level key default ms kind h =
    subst (λ k. number_from (get_member key ms) k default < 2 ^ 63) kind (duration_found default (get_member key ms) h)

pub limits_in-range : (given : Rules) (ms : Members) → AreLimitsInRange given → AreLimitsInRange (limits_in given ms)
limits_in-range given ms h = record {
  label_names = whole_setting Tenant (codes "max_label_names") given.max_label_names 64 ms refl h.label_names;
  label_name_length = whole_setting Tenant (codes "max_label_name_length") given.max_label_name_length 1024 ms refl h.label_name_length;
  label_value_length = whole_setting Tenant (codes "max_label_value_length") given.max_label_value_length 2048 ms refl h.label_value_length;
  line_size = whole_setting Tenant (codes "max_line_size") given.max_line_size 262144 ms refl h.line_size;
  streams_per_tenant = whole_setting Tenant (codes "max_streams_per_tenant") given.max_streams_per_tenant 4294967295 ms refl h.streams_per_tenant;
  entries_per_push = whole_setting Tenant (codes "max_entries_per_push") given.max_entries_per_push 10000 ms refl h.entries_per_push;
}

default_limits : AreLimitsInRange defaults
default_limits = record {
  label_names = (omega arith, omega arith);
  label_name_length = (omega arith, omega arith);
  label_value_length = (omega arith, omega arith);
  line_size = (omega arith, omega arith);
  streams_per_tenant = (omega arith, omega arith);
  entries_per_push = (omega arith, omega arith);
}

pub common_rules-range : (ms : Members) → AreRulesInRange (common_rules ms)
common_rules-range ms =
    let limits : AreLimitsInRange (limits_in defaults ms) = limits_in-range defaults ms default_limits in
    record {
      block_size = whole_setting Top (codes "chunk_block_size") 262144 1073741824 ms refl (omega arith, omega arith);
      target_size = whole_setting Top (codes "chunk_target_size") 1572864 1073741824 ms refl (omega arith, omega arith);
      idle_period = duration_setting Top (codes "chunk_idle_period") 1800000000000 ms refl (omega arith);
      chunk_age = duration_setting Top (codes "max_chunk_age") 7200000000000 ms refl (omega arith);
      limits = record {
        label_names = limits.label_names;
        label_name_length = limits.label_name_length;
        label_value_length = limits.label_value_length;
        line_size = limits.line_size;
        streams_per_tenant = limits.streams_per_tenant;
        entries_per_push = limits.entries_per_push;
      };
    }

own_rules : (common : Rules) (ms : Members) → AreRulesInRange common → AreRulesInRange (limits_in common ms)
own_rules common ms h =
    let limits : AreLimitsInRange (limits_in common ms) = limits_in-range common ms h.limits in
    record { block_size = h.block_size; target_size = h.target_size; idle_period = h.idle_period; chunk_age = h.chunk_age; limits = limits }

found_rules : (common : Rules) (tenant : List ℕ) (es : List (List ℕ × Data)) → AreRulesInRange common → AreRulesInRange (unwrap_or (find (slice_cmp nat_cmp) tenant (rules_by_tenant common es)) common)
found_rules common tenant [] h = h
found_rules common tenant (e ∷ es) h =
    elim (eq_by_cmp (slice_cmp nat_cmp) tenant e.0) as (λ b. AreRulesInRange (unwrap_or (cond b (Some (limits_in common (members_in e.1))) (find (slice_cmp nat_cmp) tenant (rules_by_tenant common es))) common)) [
      | true ↦ own_rules common (members_in e.1) h
      | false ↦ found_rules common tenant es h
    ]

-- a tenant's table has no sizes
found_sizes : (common : Rules) (tenant : List ℕ) (es : List (List ℕ × Data)) → AreSizesOf common.chunk_block_size common.chunk_target_size (unwrap_or (find (slice_cmp nat_cmp) tenant (rules_by_tenant common es)) common)
found_sizes common tenant [] = record { block = refl; target = refl }
found_sizes common tenant (e ∷ es) =
    elim (eq_by_cmp (slice_cmp nat_cmp) tenant e.0) as (λ b. AreSizesOf common.chunk_block_size common.chunk_target_size (unwrap_or (cond b (Some (limits_in common (members_in e.1))) (find (slice_cmp nat_cmp) tenant (rules_by_tenant common es))) common)) [
      | true ↦ record { block = refl; target = refl }
      | false ↦ found_sizes common tenant es
    ]

pub settings_in-range : (ms : Members) → AreInRange (settings_in ms)
settings_in-range ms = record {
  shards = whole_setting Top (codes "shards") 1 64 ms refl (omega arith, omega arith);
  flushers = whole_setting Top (codes "flushers") 1 32 ms refl (omega arith, omega arith);
  queue_length = whole_setting Top (codes "flush_queue_length") 1024 65536 ms refl (omega arith, omega arith);
  check_period = duration_setting Top (codes "flush_check_period") 0 ms refl (omega arith);
  log_size = up_to_setting Top (codes "checkpoint_log_size") 0 1099511627776 ms refl (omega arith);
  rules =
      λ tenant.
      let es = entries_of (members_at (codes "tenants") ms) in
      subst (λ o. AreRulesInRange (unwrap_or o (common_rules ms))) (sym (get-from_entries nat_list_cmp_total (rules_by_tenant (common_rules ms) es) tenant)) (found_rules (common_rules ms) tenant es (common_rules-range ms));
  sizes =
      λ tenant.
      let es = entries_of (members_at (codes "tenants") ms) in
      subst (λ o. AreSizesOf (common_rules ms).chunk_block_size (common_rules ms).chunk_target_size (unwrap_or o (common_rules ms))) (sym (get-from_entries nat_list_cmp_total (rules_by_tenant (common_rules ms) es) tenant)) (found_sizes (common_rules ms) tenant es);
}
