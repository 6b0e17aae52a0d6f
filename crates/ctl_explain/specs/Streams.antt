-- Why a stream of a push is refused, by its labels and the number of its entries alone: what depends on what is held comes
-- after these (own).
use Rattle.std.specs.Prelude.{ℕ, length, nat_lt, if◌then◌else◌, Option, Some, None, Result, Ok, Err}
use Rattle.ing_refusals.specs.declared.refusal.Refusal as table
use Rattle.ing_refusals.specs.declared.refusal.Refusal.TheVariants as refusals
use Rattle.ing_labels.specs.declared.fault.LabelLimits.{LabelLimits}
use Rattle.ing_labels.specs.declared.fault.LabelFault.{LabelFault}
use Rattle.ing_labels.specs.Labels.{LabelMap, labels_of}
use Rattle.ing_labels.specs.Faults as label_faults
use Rattle.ing_rows.specs.declared.rules.Rules.{Rules}
use Rattle.ing_commands.specs.PushCommands.{StreamEntries}
use Rattle.ctl_explain.specs.declared.stream.StreamFault.{StreamFault}
use Rattle.ctl_explain.specs.declared.stream.StreamFault.TheVariants.{Labels, TooManyEntries}

-- the limits on labels among a tenant's rules
abbrev pub limits_of : Rules → LabelLimits
limits_of rules = record { names = rules.max_label_names; name_bytes = rules.max_label_name_length; value_bytes = rules.max_label_value_length }

-- by what its labels are found to be
abbrev pub fault_with : Rules → StreamEntries → Result LabelMap LabelFault → Option StreamFault
fault_with rules s (Err fault) = Some (Labels fault)
fault_with rules s (Ok labels) = if nat_lt rules.max_entries_per_push (length s.entries) then Some TooManyEntries else None

-- the labels come first, then the number of entries
abbrev pub stream_fault_of : Rules → StreamEntries → Option StreamFault
stream_fault_of rules s = fault_with rules s (labels_of (limits_of rules) s.labels)

-- which refusal it is
abbrev pub stream_refusal_of : StreamFault → table.Refusal
stream_refusal_of (Labels fault) = label_faults.refusal_of fault
stream_refusal_of TooManyEntries = refusals.TooManyEntries

-- the label at fault, of those faults that speak of one
abbrev pub stream_fault_place : StreamFault → Option ℕ
stream_fault_place (Labels fault) = label_faults.fault_place fault
stream_fault_place TooManyEntries = None
