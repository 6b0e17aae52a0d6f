-- How the program ends on a fault (own).
use Rattle.std.specs.Prelude.{◌≡◌, ℕ, List, [], ◌∷◌, ◌++◌, codes, Result, Ok, Err, Bool, true, false, Option, Some, None, string_bytes}
use Rattle.ing_refusals.specs.declared.refusal.Refusal as table
use Rattle.ing_refusals.specs.declared.refusal.Refusal.TheVariants as refusals
use Rattle.ing_refusals.specs.Refusals.{refusal_name}
use Rattle.ing_limits.specs.Settings.{Refusal, not_toml, unknown_setting, bad_setting}
use Rattle.ing_limits.specs.declared.fault.SettingsFault.{SettingsFault}
use Rattle.ing_limits.specs.declared.fault.SettingsFault.TheVariants as settings
use Rattle.ing_refusals.specs.RecoverFaults.{recover_refusal_of}
use Rattle.ing_refusals.specs.declared.recover_fault.RecoverFault.{RecoverFault}
use Rattle.ing_refusals.specs.declared.recover_fault.RecoverFault.TheVariants as recover_faults
use Rattle.ing_refusals.specs.declared.relist_fault.RelistFault.TheVariants as relist_faults
use Rattle.ing_session.specs.declared.lines.LineError.{LineError}
use Rattle.ing_session.specs.declared.lines.LineError.TheVariants as lines
use Rattle.ing_session.specs.declared.ending.Ending.{Ending}
use Rattle.ing_session.specs.declared.ending.Ending.TheVariants.{NoMemory, NotToml, UnknownSetting, BadSetting, InputFault, OutputFault, BadArguments, NoSettings, NoFolder, NoObjects, FolderInUse, MissingLog, NotRecovered, NotServed, Differs}

abbrev pub ending_refusal : Ending → table.Refusal
ending_refusal NoMemory = refusals.NoMemory
ending_refusal NotToml = refusals.NotToml
ending_refusal (UnknownSetting _) = refusals.UnknownSetting
ending_refusal (BadSetting _) = refusals.BadSetting
ending_refusal InputFault = refusals.InputFault
ending_refusal OutputFault = refusals.OutputFault
ending_refusal BadArguments = refusals.BadArguments
ending_refusal NoSettings = refusals.NoSettings
ending_refusal NoFolder = refusals.LogFault
ending_refusal NoObjects = refusals.Failed
ending_refusal FolderInUse = refusals.FolderInUse
ending_refusal MissingLog = refusals.MissingLog
ending_refusal (NotRecovered fault) = recover_refusal_of fault
ending_refusal (NotServed refusal) = refusal
ending_refusal (Differs place) = refusals.Mismatch

-- the exit status: 1 where arguments or settings are refused, 2 where input, output or a folder failed, the folder is in use or
-- lacks a log, a shard was not made again, shards were not opened or closed, or an entry differs, 3 where memory ran out
abbrev pub ending_status : Ending → ℕ
ending_status NoMemory = 3
ending_status NotToml = 1
ending_status (UnknownSetting _) = 1
ending_status (BadSetting _) = 1
ending_status InputFault = 2
ending_status OutputFault = 2
ending_status BadArguments = 1
ending_status NoSettings = 1
ending_status NoFolder = 2
ending_status NoObjects = 2
ending_status FolderInUse = 2
ending_status MissingLog = 2
ending_status (NotRecovered fault) = 2
ending_status (NotServed refusal) = 2
ending_status (Differs place) = 2

-- the exit status of the program
abbrev pub status_of : Result (Unit {0}) Ending → ℕ
status_of (Ok done) = 0
status_of (Err ending) = ending_status ending

-- what is told behind the refusal's name
abbrev pub ending_detail : Ending → List ℕ
ending_detail (Differs place) = string_bytes place
ending_detail _ = []

-- the line on standard error
abbrev pub ending_text : Ending → List ℕ
ending_text ending = codes "ingestd: " ++ (refusal_name (ending_refusal ending) ++ (ending_detail ending ++ 10 ∷ []))

-- a run that has begun may end so
abbrev pub is_of_run : Ending → Bool
is_of_run NoMemory = true
is_of_run NotToml = false
is_of_run (UnknownSetting _) = false
is_of_run (BadSetting _) = false
is_of_run InputFault = true
is_of_run OutputFault = true
is_of_run BadArguments = false
is_of_run NoSettings = false
is_of_run NoFolder = false
is_of_run NoObjects = false
is_of_run FolderInUse = false
is_of_run MissingLog = false
is_of_run (NotRecovered fault) = false
is_of_run (NotServed refusal) = false
is_of_run (Differs place) = false

-- what it says of a settings text; the other endings say nothing of it
abbrev pub refusal_of : Ending → Option Refusal
refusal_of NoMemory = None
refusal_of NotToml = Some not_toml
refusal_of (UnknownSetting name) = Some (unknown_setting (string_bytes name))
refusal_of (BadSetting name) = Some (bad_setting (string_bytes name))
refusal_of InputFault = None
refusal_of OutputFault = None
refusal_of BadArguments = None
refusal_of NoSettings = None
refusal_of NoFolder = None
refusal_of NoObjects = None
refusal_of FolderInUse = None
refusal_of MissingLog = None
refusal_of (NotRecovered fault) = None
refusal_of (NotServed refusal) = None
refusal_of (Differs place) = None

-- the ending where a line could not be read
abbrev pub ending_of_line : LineError → Ending
ending_of_line lines.ReadFailed = InputFault
ending_of_line lines.TooManyReads = InputFault
ending_of_line lines.NoMemory = NoMemory

-- the ending where a settings text is refused
abbrev pub ending_of_settings : SettingsFault → Ending
ending_of_settings settings.NoMemory = NoMemory
ending_of_settings settings.NotToml = NotToml
ending_of_settings (settings.UnknownSetting name) = UnknownSetting name
ending_of_settings (settings.BadSetting name) = BadSetting name

-- the ending where a shard was not made again from its log: memory that ran out is its own ending
abbrev pub ending_of_recover : RecoverFault → Ending
ending_of_recover recover_faults.NoMemory = NoMemory
ending_of_recover recover_faults.LogFault = NotRecovered recover_faults.LogFault
ending_of_recover (recover_faults.Damaged at) = NotRecovered (recover_faults.Damaged at)
ending_of_recover recover_faults.OtherSettings = NotRecovered recover_faults.OtherSettings
ending_of_recover (recover_faults.Relist relist_faults.NoMemory) = NoMemory
ending_of_recover (recover_faults.Relist (relist_faults.Failed key)) = NotRecovered (recover_faults.Relist (relist_faults.Failed key))
ending_of_recover (recover_faults.Relist (relist_faults.Damaged key)) = NotRecovered (recover_faults.Relist (relist_faults.Damaged key))
ending_of_recover (recover_faults.Relist (relist_faults.Missing key)) = NotRecovered (recover_faults.Relist (relist_faults.Missing key))
ending_of_recover (recover_faults.Relist (relist_faults.BadObject key)) = NotRecovered (recover_faults.Relist (relist_faults.BadObject key))

-- a shard was not made again
abbrev pub IsNotRecovered : Ending → Type 0
IsNotRecovered ending = (fault : RecoverFault) × (ending ≡ NotRecovered fault)
