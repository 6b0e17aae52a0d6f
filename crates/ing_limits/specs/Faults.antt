-- Which row of the table of refusals a fault is, and which refusal of a text (own).
use Rattle.std.specs.Prelude.{Option, Some, None, string_bytes}
use Rattle.ing_refusals.specs.declared.refusal.Refusal as table
use Rattle.ing_refusals.specs.declared.refusal.Refusal.TheVariants as rows
use Rattle.ing_limits.specs.Settings.{Refusal, not_toml, unknown_setting, bad_setting}
use Rattle.ing_limits.specs.declared.fault.SettingsFault.{SettingsFault}
use Rattle.ing_limits.specs.declared.fault.SettingsFault.TheVariants.{NoMemory, NotToml, UnknownSetting, BadSetting}

-- the row of the table of refusals that a fault of settings is
abbrev pub fault_refusal : SettingsFault → table.Refusal
fault_refusal NoMemory = rows.NoMemory
fault_refusal NotToml = rows.NotToml
fault_refusal (UnknownSetting _) = rows.UnknownSetting
fault_refusal (BadSetting _) = rows.BadSetting

-- what a fault says of the text; want of memory says nothing of it
abbrev pub refusal_of : SettingsFault → Option Refusal
refusal_of NoMemory = None
refusal_of NotToml = Some not_toml
refusal_of (UnknownSetting name) = Some (unknown_setting (string_bytes name))
refusal_of (BadSetting name) = Some (bad_setting (string_bytes name))
