-- Which refusals the faults of an ingester are (own).
use Rattle.ing_refusals.specs.declared.refusal.Refusal.{Refusal}
use Rattle.ing_refusals.specs.declared.refusal.Refusal.TheVariants as refusal
use Rattle.ing_shard.specs.declared.node_fault.NodeFault.{NodeFault}
use Rattle.ing_shard.specs.declared.node_fault.NodeFault.TheVariants.{NoMemory, CounterFull, TooManyEntries, Misplaced}

-- the refusal of the same name
abbrev pub refusal_of : NodeFault → Refusal
refusal_of NoMemory = refusal.NoMemory
refusal_of CounterFull = refusal.CounterFull
refusal_of TooManyEntries = refusal.TooManyEntries
refusal_of (Misplaced shard) = refusal.Misplaced
