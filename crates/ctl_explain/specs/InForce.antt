-- The settings in force, written out (own).
use Rattle.std.specs.Prelude.{◌≡◌, ℕ, codes, bytes_eq, pos, List, [], ◌∷◌, Bool, true, false, not, ◌&&◌, if◌then◌else◌, is_some, Option, Some, None, IfSome, Ok, Err, ⊤, String, string_bytes}
use Rattle.std.specs.declared.alloc.Global.{Global}
use Rattle.std.specs.Borrow.{Bor}
use Rattle.std.specs.List.{list_all}
use Rattle.std.specs.Option.{option_or}
use Rattle.ing_refusals.specs.declared.refusal.Refusal as refusals
use Rattle.ing_refusals.specs.declared.refusal.Refusal.TheVariants as rows
use Rattle.ing_rows.specs.declared.rules.Rules.{Rules}
use Rattle.toml.specs.Data.{Data, string, integer, boolean, table, Members, no_members, member, get_member}
use Rattle.toml.specs.Parse.{parse_document}
use Rattle.ing_limits.specs.Faults.{refusal_of, fault_refusal}
use Rattle.ing_limits.specs.Ranges.{rules_for}
use Rattle.ing_limits.specs.Settings.{StoreSettings, settings_of, settings_in, not_toml, has_flaw}
use Rattle.ing_limits.specs.declared.keys.Level.{Level}
use Rattle.ing_limits.specs.declared.flaws.Flaw.TheVariants.{Unknown, Bad}
use Rattle.ctl_explain.specs.declared.in_force.Given.{Given}
use Rattle.ctl_explain.specs.declared.in_force.Given.TheVariants.{Whole, Text, Flag}
use Rattle.ctl_explain.specs.declared.settings_refusal.SettingsRefusal.{SettingsRefusal}
use Rattle.ctl_explain.specs.declared.settings_refusal.SettingsRefusal.TheVariants.{NoMemory, NotToml, Refused}

-- the keys of a settings file beside the tables of tenants, each with its default
abbrev pub default_members : List (List ℕ × Data)
default_members =
    (codes "shards", integer (pos 1))
    ∷ (codes "flushers", integer (pos 1))
    ∷ (codes "flush_queue_length", integer (pos 1024))
    ∷ (codes "flush_check_period", string (codes "0s"))
    ∷ (codes "checkpoint_log_size", integer (pos 0))
    ∷ (codes "diaries", boolean false)
    ∷ (codes "chunk_block_size", integer (pos 262144))
    ∷ (codes "chunk_target_size", integer (pos 1572864))
    ∷ (codes "chunk_idle_period", string (codes "30m"))
    ∷ (codes "max_chunk_age", string (codes "2h"))
    ∷ (codes "max_label_names", integer (pos 15))
    ∷ (codes "max_label_name_length", integer (pos 1024))
    ∷ (codes "max_label_value_length", integer (pos 2048))
    ∷ (codes "max_line_size", integer (pos 262144))
    ∷ (codes "max_streams_per_tenant", integer (pos 1000))
    ∷ (codes "max_entries_per_push", integer (pos 10000))
    ∷ []

-- what the code gives a key
abbrev pub given_data : Given → Data
given_data (Whole z) = integer z
given_data (Text text) = string text.now
given_data (Flag b) = boolean b

abbrev pub given_member : Bor (List ℕ) × Given → List ℕ × Data
given_member e = (e.0.now, given_data e.1)

-- the data beside a name
abbrev pub stated : List (List ℕ × Data) → List ℕ → Option Data
stated [] name = None
stated (e ∷ es) name = if bytes_eq name e.0 then Some e.1 else stated es name

-- each name has what it had, and else what is stated for it
abbrev pub FillsIn : List (List ℕ × Data) → Members → Members → Type 0
FillsIn es old new = (name : List ℕ) → get_member name new ≡ option_or (get_member name old) (stated es name)

-- the table has a value at each of these names
abbrev pub HasAll : List (List ℕ) → Members → Type 0
HasAll names ms = list_all (λ name. is_some (get_member name ms)) names ≡ true

-- the names of a tenant's rules
abbrev pub rule_names : List (List ℕ)
rule_names =
    codes "chunk_block_size"
    ∷ codes "chunk_target_size"
    ∷ codes "chunk_idle_period"
    ∷ codes "max_chunk_age"
    ∷ codes "max_label_names"
    ∷ codes "max_label_name_length"
    ∷ codes "max_label_value_length"
    ∷ codes "max_line_size"
    ∷ codes "max_streams_per_tenant"
    ∷ codes "max_entries_per_push"
    ∷ []

-- the names beside the tables of tenants
abbrev pub all_names : List (List ℕ)
all_names = codes "shards" ∷ codes "flushers" ∷ codes "flush_queue_length" ∷ codes "flush_check_period" ∷ codes "checkpoint_log_size" ∷ codes "diaries" ∷ rule_names

-- a text with every key, which is read as these settings
pub record WritesOut (settings : StoreSettings) (text : List ℕ) : Type 0 where
  pub same : settings_of text ≡ Ok settings
  pub members : Members
  pub read : parse_document text ≡ Some members
  pub whole : HasAll all_names members

-- a text with every rule, which is read as settings that give each tenant these rules
pub record WritesRules (rules : Rules) (text : List ℕ) : Type 0 where
  pub settings : StoreSettings
  pub accepted : settings_of text ≡ Ok settings
  pub same : (tenant : List ℕ) → rules_for settings tenant ≡ rules
  pub members : Members
  pub read : parse_document text ≡ Some members
  pub whole : HasAll rule_names members

-- why a settings file is refused
abbrev pub TellsFault : List ℕ → SettingsRefusal → Type 0
TellsFault text NoMemory = ⊤
TellsFault text (NotToml error) = settings_of text ≡ Err not_toml
TellsFault text (Refused fault) = IfSome (refusal_of fault) (λ refusal. settings_of text ≡ Err refusal)

-- which refusal it is
abbrev pub settings_refusal : SettingsRefusal → refusals.Refusal
settings_refusal NoMemory = rows.NoMemory
settings_refusal (NotToml error) = rows.NotToml
settings_refusal (Refused fault) = fault_refusal fault

-- ---- for private clauses

-- each rule by its name; these texts are the durations
abbrev pub rule_members : Rules → List ℕ → List ℕ → List (List ℕ × Data)
rule_members r idle age =
    (codes "chunk_block_size", integer (pos r.chunk_block_size))
    ∷ (codes "chunk_target_size", integer (pos r.chunk_target_size))
    ∷ (codes "chunk_idle_period", string idle)
    ∷ (codes "max_chunk_age", string age)
    ∷ (codes "max_label_names", integer (pos r.max_label_names))
    ∷ (codes "max_label_name_length", integer (pos r.max_label_name_length))
    ∷ (codes "max_label_value_length", integer (pos r.max_label_value_length))
    ∷ (codes "max_line_size", integer (pos r.max_line_size))
    ∷ (codes "max_streams_per_tenant", integer (pos r.max_streams_per_tenant))
    ∷ (codes "max_entries_per_push", integer (pos r.max_entries_per_push))
    ∷ []

-- a text of settings that are these members, and the defaults of what they do not have
pub record WritesFilled (old : Members) (text : String Global) : Type 0 where
  pub new : Members
  pub filled : FillsIn default_members old new
  pub read : parse_document (string_bytes text) ≡ Some new
  pub accepted : settings_of (string_bytes text) ≡ Ok (settings_in new)

-- each key with its value passes
abbrev pub all_entries : (List ℕ → Data → Bool) → Members → Bool
all_entries p no_members = true
all_entries p (member k d ms) = p k d && all_entries p ms

-- a text or a whole number
abbrev pub is_plain : Data → Bool
is_plain (string text) = true
is_plain (integer z) = true
is_plain _ = false

-- such, true or false, or a table of what passes
abbrev pub is_plain_or : (List ℕ → Data → Bool) → Data → Bool
is_plain_or p (string text) = true
is_plain_or p (integer z) = true
is_plain_or p (boolean b) = true
is_plain_or p (table ms) = all_entries p ms
is_plain_or p _ = false

-- as each value of a settings file is, of a table of tenants and of a tenant's table
abbrev pub is_limit : List ℕ → Data → Bool
is_limit k d = is_plain d

abbrev pub is_tenant_table : List ℕ → Data → Bool
is_tenant_table k d = is_plain_or is_limit d

abbrev pub is_setting : List ℕ → Data → Bool
is_setting k d = is_plain_or is_tenant_table d

-- the key is known at this level, and its value is good
abbrev pub is_good : Level → List ℕ → Data → Bool
is_good level k d = not (has_flaw Unknown level (k, d)) && not (has_flaw Bad level (k, d))

-- each key of a part of a table is found in the whole with its value
abbrev pub IsUniqueIn : Members → Members → Type 0
IsUniqueIn whole no_members = ⊤
IsUniqueIn whole (member k d ms) = (get_member k whole ≡ Some d) × IsUniqueIn whole ms
