-- Which refusal a fault of a list of pairs is, and the pair that it speaks of.
use Rattle.std.specs.Prelude.{ℕ, Option, Some, None}
use Rattle.ing_refusals.specs.declared.refusal.Refusal.{Refusal}
use Rattle.ing_refusals.specs.declared.refusal.Refusal.TheVariants as refusal
use Rattle.ing_labels.specs.declared.fault.LabelFault.{LabelFault}
use Rattle.ing_labels.specs.declared.fault.LabelFault.TheVariants.{NoMemory, BadName, TwiceNamed, NoLabels, TooMany, NameTooLong, ValueTooLong}

-- the refusal of the same name
abbrev pub refusal_of : LabelFault → Refusal
refusal_of NoMemory = refusal.NoMemory
refusal_of (BadName _) = refusal.BadName
refusal_of (TwiceNamed _) = refusal.TwiceNamed
refusal_of NoLabels = refusal.NoLabels
refusal_of TooMany = refusal.TooMany
refusal_of (NameTooLong _) = refusal.NameTooLong
refusal_of (ValueTooLong _) = refusal.ValueTooLong

-- the index of the pair at fault, of those faults that speak of one pair
abbrev pub fault_place : LabelFault → Option ℕ
fault_place NoMemory = None
fault_place (BadName at) = Some at
fault_place (TwiceNamed at) = Some at
fault_place NoLabels = None
fault_place TooMany = None
fault_place (NameTooLong at) = Some at
fault_place (ValueTooLong at) = Some at
