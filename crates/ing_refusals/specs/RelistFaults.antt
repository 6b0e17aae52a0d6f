-- Which refusal a fault of a re-listing is (own).
use Rattle.ing_refusals.specs.declared.refusal.Refusal.{Refusal}
use Rattle.ing_refusals.specs.declared.refusal.Refusal.TheVariants as refusal
use Rattle.ing_refusals.specs.declared.relist_fault.RelistFault.{RelistFault}
use Rattle.ing_refusals.specs.declared.relist_fault.RelistFault.TheVariants.{NoMemory, Failed, Damaged, Missing, BadObject}

-- the refusal of the same name; an object that is missing is not the chunk that is listed
abbrev pub relist_refusal_of : RelistFault → Refusal
relist_refusal_of NoMemory = refusal.NoMemory
relist_refusal_of (Failed key) = refusal.Failed
relist_refusal_of (Damaged key) = refusal.Damaged
relist_refusal_of (Missing key) = refusal.BadObject
relist_refusal_of (BadObject key) = refusal.BadObject
