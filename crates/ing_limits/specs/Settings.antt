-- What a settings file says: which names are unknown in it, which values are bad, and the settings that it gives (Loki
-- documentation: ingester and limits configuration; the names in TOML, the ranges and the order of the tests are own).
use Rattle.std.specs.Prelude.{ℕ, ◌&&◌, ◌++◌, nat_le, Bool, true, false, not, codes, bytes_eq, pos, List, [], ◌∷◌, map, filter, if◌then◌else◌, is_some, Option, Some, None, option_and_then, Result, Ok, Err}
use Rattle.std.specs.Option.{unwrap_or}
use Rattle.std.specs.List.{flat_map}
use Rattle.std.specs.Ordering.{nat_cmp, is_lt}
use Rattle.std.specs.Cmp.Lexicographic.{slice_cmp}
use Rattle.std.specs.FinMap.{FinMap, from_entries}
use Rattle.ing_rows.specs.Texts.{is_tenant}
use Rattle.ing_rows.specs.Defaults.{defaults}
use Rattle.ing_rows.specs.declared.rules.Rules.{Rules}
use Rattle.toml.specs.Data.{Data, string, integer, table, Members, no_members, member, get_member, as_bool}
use Rattle.toml.specs.Parse.{parse_document}
use Rattle.ing_limits.specs.Durations.{duration_of}
use Rattle.ing_limits.specs.Greatest.{most_shards, most_flushers, most_queued, most_log_bytes, most_bytes, most_label_names, most_name_bytes, most_value_bytes, most_line_bytes, most_streams, most_entries}
use Rattle.ing_limits.specs.declared.keys.Kind.{Kind}
use Rattle.ing_limits.specs.declared.keys.Kind.TheVariants.{Whole, UpTo, Duration, Flag, Table, Nothing}
use Rattle.ing_limits.specs.declared.keys.Level.{Level}
use Rattle.ing_limits.specs.declared.keys.Level.TheVariants.{Top, Tenants, Tenant}
use Rattle.ing_limits.specs.declared.flaws.Flaw.{Flaw}
use Rattle.ing_limits.specs.declared.flaws.Flaw.TheVariants.{Unknown, Bad}

-- the keys of the whole store
abbrev pub store_keys : List (List ℕ × Kind)
store_keys =
    (codes "shards", Whole most_shards)
    ∷ (codes "flushers", Whole most_flushers)
    ∷ (codes "flush_queue_length", Whole most_queued)
    ∷ (codes "flush_check_period", Duration)
    ∷ (codes "checkpoint_log_size", UpTo most_log_bytes)
    ∷ (codes "diaries", Flag)
    ∷ (codes "chunk_block_size", Whole most_bytes)
    ∷ (codes "chunk_target_size", Whole most_bytes)
    ∷ (codes "chunk_idle_period", Duration)
    ∷ (codes "max_chunk_age", Duration)
    ∷ (codes "tenants", Table)
    ∷ []

-- the limits, which stand for all tenants, and may stand again for one
abbrev pub limit_keys : List (List ℕ × Kind)
limit_keys =
    (codes "max_label_names", Whole most_label_names)
    ∷ (codes "max_label_name_length", Whole most_name_bytes)
    ∷ (codes "max_label_value_length", Whole most_value_bytes)
    ∷ (codes "max_line_size", Whole most_line_bytes)
    ∷ (codes "max_streams_per_tenant", Whole most_streams)
    ∷ (codes "max_entries_per_push", Whole most_entries)
    ∷ []

-- the kind beside a key
abbrev pub kind_in : List (List ℕ × Kind) → List ℕ → Option Kind
kind_in [] key = None
kind_in (k ∷ ks) key = if bytes_eq key k.0 then Some k.1 else kind_in ks key

-- the kind of a key at the top of the file, in the table `tenants` and in a tenant's table; no value fits a name in
-- `tenants` that is no tenant id
abbrev pub kind_of : Level → List ℕ → Option Kind
kind_of Top key = kind_in (store_keys ++ limit_keys) key
kind_of Tenants key = Some (if is_tenant key then Table else Nothing)
kind_of Tenant key = kind_in limit_keys key

-- the number from 1 to the greatest or up to it, or the nanoseconds of the duration, that a value of this kind is
abbrev pub number_of : Kind → Data → Option ℕ
number_of (Whole most) (integer (pos n)) = if nat_le 1 n && nat_le n most then Some n else None
number_of (UpTo most) (integer (pos n)) = if nat_le n most then Some n else None
number_of Duration (string text) = duration_of text
number_of _ _ = None

abbrev pub is_table : Data → Bool
is_table (table ms) = true
is_table _ = false

-- the value is one of this kind
abbrev pub fits : Kind → Data → Bool
fits (Whole most) d = is_some (number_of (Whole most) d)
fits (UpTo most) d = is_some (number_of (UpTo most) d)
fits Duration d = is_some (number_of Duration d)
fits Flag d = is_some (as_bool d)
fits Table d = is_table d
fits Nothing d = false

-- a known key's value does not fit
abbrev pub is_misfit : Option Kind → Data → Bool
is_misfit None d = false
is_misfit (Some kind) d = not (fits kind d)

-- the key is unknown, or its value is bad
abbrev pub has_flaw : Flaw → Level → List ℕ × Data → Bool
has_flaw Unknown level e = not (is_some (kind_of level e.0))
has_flaw Bad level e = is_misfit (kind_of level e.0) e.1

-- the keys of a table with their values
abbrev pub entries_of : Members → List (List ℕ × Data)
entries_of no_members = []
entries_of (member key d ms) = (key, d) ∷ entries_of ms

-- the members of a value that is a table
abbrev pub members_in : Data → Members
members_in (table ms) = ms
members_in _ = no_members

-- the members of the table at a key, and none where there is no table
abbrev pub members_at : List ℕ → Members → Members
members_at key ms = unwrap_or (option_and_then (λ d. Some (members_in d)) (get_member key ms)) no_members

-- the dotted names of a table's keys with the flaw
abbrev pub flawed_names : Flaw → Level → List ℕ → List (List ℕ × Data) → List (List ℕ)
flawed_names flaw level prefix es = map (λ e. prefix ++ e.0) (filter (has_flaw flaw level) es)

-- the same for the tables of the tenants
abbrev pub tenants_flawed : Flaw → List (List ℕ × Data) → List (List ℕ)
tenants_flawed flaw = flat_map (λ e. flawed_names flaw Tenant ((codes "tenants." ++ e.0) ++ codes ".") (entries_of (members_in e.1)))

-- all dotted names with the flaw
abbrev pub all_flawed : Flaw → Members → List (List ℕ)
all_flawed flaw ms =
    let tenants = entries_of (members_at (codes "tenants") ms) in
    (flawed_names flaw Top [] (entries_of ms) ++ flawed_names flaw Tenants (codes "tenants.") tenants) ++ tenants_flawed flaw tenants

-- the name that comes first in byte order
abbrev pub lesser : Option (List ℕ) → List ℕ → Option (List ℕ)
lesser None name = Some name
lesser (Some least) name = if is_lt (slice_cmp nat_cmp name least) then Some name else Some least

abbrev pub least_with : Option (List ℕ) → List (List ℕ) → Option (List ℕ)
least_with least [] = least
least_with least (name ∷ names) = least_with (lesser least name) names

-- the first in byte order of some names
abbrev pub least_of : List (List ℕ) → Option (List ℕ)
least_of = least_with None

-- the number at a key, or the default
abbrev pub setting : Level → List ℕ → ℕ → Members → ℕ
setting level key default ms =
    unwrap_or (option_and_then (λ d. option_and_then (λ kind. number_of kind d) (kind_of level key)) (get_member key ms)) default

-- what is true or false at a key, or the default
abbrev pub flag : List ℕ → Bool → Members → Bool
flag key default ms = unwrap_or (option_and_then as_bool (get_member key ms)) default

-- the limits in a table, and the given ones where it has none; every field is named, so that none can be forgotten
abbrev pub limits_in : Rules → Members → Rules
limits_in given ms = record {
  chunk_block_size = given.chunk_block_size;
  chunk_target_size = given.chunk_target_size;
  chunk_idle_period = given.chunk_idle_period;
  max_chunk_age = given.max_chunk_age;
  max_label_names = setting Tenant (codes "max_label_names") given.max_label_names ms;
  max_label_name_length = setting Tenant (codes "max_label_name_length") given.max_label_name_length ms;
  max_label_value_length = setting Tenant (codes "max_label_value_length") given.max_label_value_length ms;
  max_line_size = setting Tenant (codes "max_line_size") given.max_line_size ms;
  max_streams_per_tenant = setting Tenant (codes "max_streams_per_tenant") given.max_streams_per_tenant ms;
  max_entries_per_push = setting Tenant (codes "max_entries_per_push") given.max_entries_per_push ms;
}

-- what a table says of chunks, with the default limits
abbrev pub chunk_rules : Members → Rules
chunk_rules ms = record {
  chunk_block_size = setting Top (codes "chunk_block_size") defaults.chunk_block_size ms;
  chunk_target_size = setting Top (codes "chunk_target_size") defaults.chunk_target_size ms;
  chunk_idle_period = setting Top (codes "chunk_idle_period") defaults.chunk_idle_period ms;
  max_chunk_age = setting Top (codes "max_chunk_age") defaults.max_chunk_age ms;
  max_label_names = defaults.max_label_names;
  max_label_name_length = defaults.max_label_name_length;
  max_label_value_length = defaults.max_label_value_length;
  max_line_size = defaults.max_line_size;
  max_streams_per_tenant = defaults.max_streams_per_tenant;
  max_entries_per_push = defaults.max_entries_per_push;
}

-- the rules of the tenants that have no table
abbrev pub common_rules : Members → Rules
common_rules ms = limits_in (chunk_rules ms) ms

-- from the bytes of a tenant id to the tenant's rules
abbrev pub TenantRules : Type 0
TenantRules = FinMap (slice_cmp nat_cmp) Rules

-- the tenants' own rules
abbrev pub rules_by_tenant : Rules → List (List ℕ × Data) → List (List ℕ × Rules)
rules_by_tenant common = map (λ e. (e.0, limits_in common (members_in e.1)))

-- the settings of a store
pub record StoreSettings : Type 0 where
  pub shards : ℕ
  pub flushers : ℕ
  pub flush_queue_length : ℕ
  pub flush_check_period : ℕ
  pub checkpoint_log_size : ℕ
  pub diaries : Bool
  pub rules : Rules
  pub tenants : TenantRules

-- the settings in a table without unknown names and bad values
abbrev pub settings_in : Members → StoreSettings
settings_in ms = record {
  shards = setting Top (codes "shards") 1 ms;
  flushers = setting Top (codes "flushers") 1 ms;
  flush_queue_length = setting Top (codes "flush_queue_length") 1024 ms;
  flush_check_period = setting Top (codes "flush_check_period") 0 ms;
  checkpoint_log_size = setting Top (codes "checkpoint_log_size") 0 ms;
  diaries = flag (codes "diaries") false ms;
  rules = common_rules ms;
  tenants = from_entries (rules_by_tenant (common_rules ms) (entries_of (members_at (codes "tenants") ms)));
}

-- why a text gives no settings
pub data Refusal : Type 0 where
  not_toml : Refusal
  unknown_setting : List ℕ → Refusal
  bad_setting : List ℕ → Refusal

-- a refusal for a name, and else what the later tests say
abbrev pub or_refused : Option (List ℕ) → (List ℕ → Refusal) → Result StoreSettings Refusal → Result StoreSettings Refusal
or_refused (Some name) refusal later = Err (refusal name)
or_refused None refusal later = later

-- the settings in a table: first the unknown names are refused, then the bad values, the first in byte order of several
abbrev pub settings_of_table : Members → Result StoreSettings Refusal
settings_of_table ms =
    or_refused (least_of (all_flawed Unknown ms)) unknown_setting (
    or_refused (least_of (all_flawed Bad ms)) bad_setting (
    Ok (settings_in ms)))

abbrev pub settings_of_document : Option Members → Result StoreSettings Refusal
settings_of_document None = Err not_toml
settings_of_document (Some ms) = settings_of_table ms

-- the settings that a text gives
abbrev pub settings_of : List ℕ → Result StoreSettings Refusal
settings_of text = settings_of_document (parse_document text)
