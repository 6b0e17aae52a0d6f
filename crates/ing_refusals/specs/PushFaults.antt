-- Which refusal a fault of a push is (own).
use Rattle.ing_refusals.specs.declared.refusal.Refusal.{Refusal}
use Rattle.ing_refusals.specs.declared.refusal.Refusal.TheVariants as refusal
use Rattle.ing_refusals.specs.declared.push_fault.PushFault.{PushFault}
use Rattle.ing_refusals.specs.declared.push_fault.PushFault.TheVariants.{NoMemory, CounterFull, TooManyEntries}

abbrev pub push_refusal_of : PushFault → Refusal
push_refusal_of NoMemory = refusal.NoMemory
push_refusal_of CounterFull = refusal.CounterFull
push_refusal_of TooManyEntries = refusal.TooManyEntries
