-- The faults of lines: which refusal each is, and what the faults of a line's parts become.
use Rattle.ing_refusals.specs.declared.refusal.Refusal as table
use Rattle.ing_refusals.specs.declared.refusal.Refusal.TheVariants as refusals
use Rattle.ing_rows.specs.declared.fault.RowFault.{RowFault}
use Rattle.ing_rows.specs.declared.fault.RowFault.TheVariants as rows
use Rattle.ing_commands.specs.declared.fault.LineFault.{LineFault}
use Rattle.ing_commands.specs.declared.fault.LineFault.TheVariants.{NoMemory, BadCommand, Metadata, BadTenant, BadStamp}

abbrev pub refusal_of : LineFault → table.Refusal
refusal_of NoMemory = refusals.NoMemory
refusal_of BadCommand = refusals.BadCommand
refusal_of Metadata = refusals.Metadata
refusal_of BadTenant = refusals.BadTenant
refusal_of BadStamp = refusals.BadStamp

-- the line's fault where a part of it is refused
abbrev pub fault_of : RowFault → LineFault
fault_of rows.NoMemory = NoMemory
fault_of rows.BadTenant = BadTenant
fault_of rows.BadStamp = BadStamp
