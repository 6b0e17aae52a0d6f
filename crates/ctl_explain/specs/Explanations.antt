-- What is told of a line (own).
use Rattle.std.specs.Prelude.{◌≡◌, ◌≢◌, ℕ, Bool, true, false, is_some, List, map, Option, Some, None, Result, Ok, Err, ⊤}
use Rattle.std.specs.List.{list_any}
use Rattle.serde_json.specs.Data.{Data}
use Rattle.ing_labels.specs.Selectors.{Match, IsSelector, IsSelectorText}
use Rattle.ing_labels.specs.TextFaults.{IsSelectorFault}
use Rattle.ing_labels.specs.declared.text_fault.TextFault.{TextFault}
use Rattle.ing_labels.specs.declared.text_fault.TextFault.TheVariants as text_faults
use Rattle.ing_limits.specs.Settings.{StoreSettings}
use Rattle.ing_limits.specs.Ranges.{rules_for}
use Rattle.ing_commands.specs.declared.fault.LineFault.{LineFault}
use Rattle.ing_commands.specs.declared.fault.LineFault.TheVariants.{BadCommand}
use Rattle.ing_commands.specs.Commands.{Command, Push, Sweep, Flush, Gauges, Board, Checkpoint, Query, Catalog, data_of}
use Rattle.ctl_explain.specs.declared.explained.Cause.{Cause}
use Rattle.ctl_explain.specs.declared.explained.Cause.TheVariants as cause
use Rattle.ctl_explain.specs.declared.explained.Explained.{Explained}
use Rattle.ctl_explain.specs.declared.explained.Explained.TheVariants as told
use Rattle.ctl_explain.specs.declared.stream.StreamFault.{StreamFault}
use Rattle.ctl_explain.specs.Lines.{is_long}
use Rattle.ctl_explain.specs.Members.{IsAtFault}
use Rattle.ctl_explain.specs.Streams.{stream_fault_of}

-- the line as a whole has this fault
abbrev pub TellsLine : LineFault → Explained → Type 0
TellsLine fault (told.Line said why) = said ≡ fault
TellsLine fault told.Skipped = ⊥
TellsLine fault told.Taken = ⊥
TellsLine fault (told.Push faults) = ⊥
TellsLine fault (told.Query refused) = ⊥

abbrev pub IsSkipped : Explained → Type 0
IsSkipped x = x ≡ told.Skipped

abbrev pub IsTaken : Explained → Type 0
IsTaken x = x ≡ told.Taken

-- the streams of a push have these faults, each in its place
abbrev pub TellsPush : List (Option StreamFault) → Explained → Type 0
TellsPush faults (told.Push said) = said.items ≡ faults
TellsPush faults (told.Line said why) = ⊥
TellsPush faults told.Skipped = ⊥
TellsPush faults told.Taken = ⊥
TellsPush faults (told.Query refused) = ⊥

-- the text of a query is a selector that may be used, or it is none by this fault
abbrev pub TellsText : List ℕ → Option TextFault → Type 0
TellsText text None = (ms : List Match) × IsSelectorText ms text × IsSelector ms
TellsText text (Some fault) = (fault ≢ text_faults.NoMemory) × IsSelectorFault text fault

abbrev pub TellsQuery : List ℕ → Explained → Type 0
TellsQuery text (told.Query refused) = TellsText text refused
TellsQuery text (told.Line said why) = ⊥
TellsQuery text told.Skipped = ⊥
TellsQuery text told.Taken = ⊥
TellsQuery text (told.Push faults) = ⊥

-- a question for a catalog is taken, or its text is refused as that of a query
abbrev pub TellsCatalog : Option (List ℕ) → Explained → Type 0
TellsCatalog None x = IsTaken x
TellsCatalog (Some text) x = TellsQuery text x

-- what a command is told to be
abbrev pub TellsCommand : StoreSettings → Command → Explained → Type 0
TellsCommand settings (Push push) x = TellsPush (map (stream_fault_of (rules_for settings push.tenant)) push.streams) x
TellsCommand settings (Query query) x = TellsQuery query.text x
TellsCommand settings (Sweep sweep) x = IsTaken x
TellsCommand settings (Flush flush) x = IsTaken x
TellsCommand settings (Gauges gauges) x = IsTaken x
TellsCommand settings Board x = IsTaken x
TellsCommand settings Checkpoint x = IsTaken x
TellsCommand settings (Catalog catalog) x = TellsCatalog catalog.text x

-- what a line that says this is told to be
abbrev pub Tells : StoreSettings → Option (Result Command LineFault) → Explained → Type 0
Tells settings None x = IsSkipped x
Tells settings (Some (Err fault)) x = TellsLine fault x
Tells settings (Some (Ok command)) x = TellsCommand settings command x

-- why a line has its fault: it is too long, or no JSON, or a member by itself has the fault
abbrev pub IsCause : List ℕ → LineFault → Cause → Type 0
IsCause line fault cause.Length = is_long line ≡ true
IsCause line fault (cause.Json error) = data_of line ≡ Err BadCommand
IsCause line fault (cause.Member m) = (d : Data) × (data_of line ≡ Ok d) × IsAtFault d fault m

abbrev pub HasCause : List ℕ → Explained → Type 0
HasCause line (told.Line fault why) = IsCause line fault why
HasCause line told.Skipped = ⊤
HasCause line told.Taken = ⊤
HasCause line (told.Push faults) = ⊤
HasCause line (told.Query refused) = ⊤

-- the line, a stream of it or its selector is refused
abbrev pub is_refused : Explained → Bool
is_refused told.Skipped = false
is_refused told.Taken = false
is_refused (told.Line fault why) = true
is_refused (told.Push faults) = list_any is_some faults.items
is_refused (told.Query refused) = is_some refused
