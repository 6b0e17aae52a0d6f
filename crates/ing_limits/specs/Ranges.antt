-- The ranges in which settings lie (own).
use Rattle.std.specs.Prelude.{◌≡◌, ℕ, ◌≤◌, ◌<◌, ◌^◌, List}
use Rattle.std.specs.Option.{unwrap_or}
use Rattle.std.specs.FinMap.{get}
use Rattle.ing_rows.specs.declared.rules.Rules.{Rules}
use Rattle.ing_limits.specs.Greatest.{most_shards, most_flushers, most_queued, most_log_bytes, most_bytes, most_label_names, most_name_bytes, most_value_bytes, most_line_bytes, most_streams, most_entries}
use Rattle.ing_limits.specs.Settings.{StoreSettings}

-- from 1 to the greatest
abbrev pub IsUpTo : ℕ → ℕ → Type 0
IsUpTo most n = (1 ≤ n) × (n ≤ most)

pub record AreLimitsInRange (r : Rules) : Type 0 where
  pub label_names : IsUpTo most_label_names r.max_label_names
  pub label_name_length : IsUpTo most_name_bytes r.max_label_name_length
  pub label_value_length : IsUpTo most_value_bytes r.max_label_value_length
  pub line_size : IsUpTo most_line_bytes r.max_line_size
  pub streams_per_tenant : IsUpTo most_streams r.max_streams_per_tenant
  pub entries_per_push : IsUpTo most_entries r.max_entries_per_push

-- sizes in bytes, durations in nanoseconds
pub record AreRulesInRange (r : Rules) : Type 0 where
  pub block_size : IsUpTo most_bytes r.chunk_block_size
  pub target_size : IsUpTo most_bytes r.chunk_target_size
  pub idle_period : r.chunk_idle_period < 2 ^ 63
  pub chunk_age : r.max_chunk_age < 2 ^ 63
  pub limits : AreLimitsInRange r

-- the rules of a tenant: its own, or those of all tenants
abbrev pub rules_for : StoreSettings → List ℕ → Rules
rules_for s tenant = unwrap_or (get s.tenants tenant) s.rules

-- blocks are closed, and chunks sealed as full, at the same sizes
pub record AreSizesOf (block_size target_size : ℕ) (r : Rules) : Type 0 where
  pub block : r.chunk_block_size ≡ block_size
  pub target : r.chunk_target_size ≡ target_size

-- a tenant has no sizes of its own
pub record AreInRange (s : StoreSettings) : Type 0 where
  pub shards : IsUpTo most_shards s.shards
  pub flushers : IsUpTo most_flushers s.flushers
  pub queue_length : IsUpTo most_queued s.flush_queue_length
  pub check_period : s.flush_check_period < 2 ^ 63
  pub log_size : s.checkpoint_log_size ≤ most_log_bytes
  pub rules : (tenant : List ℕ) → AreRulesInRange (rules_for s tenant)
  pub sizes : (tenant : List ℕ) → AreSizesOf s.rules.chunk_block_size s.rules.chunk_target_size (rules_for s tenant)
