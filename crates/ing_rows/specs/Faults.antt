-- Which refusal each of this crate's faults is (own).
use Rattle.ing_refusals.specs.declared.refusal.Refusal.{Refusal}
use Rattle.ing_refusals.specs.declared.refusal.Refusal.TheVariants as refusal
use Rattle.ing_rows.specs.declared.fault.RowFault.{RowFault}
use Rattle.ing_rows.specs.declared.fault.RowFault.TheVariants.{NoMemory, BadTenant, BadStamp}

abbrev pub refusal_of : RowFault → Refusal
refusal_of NoMemory = refusal.NoMemory
refusal_of BadTenant = refusal.BadTenant
refusal_of BadStamp = refusal.BadStamp
