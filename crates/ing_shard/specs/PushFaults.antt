-- Which fault of an ingester a shard's refusal of a push is (own).
use Rattle.ing_refusals.specs.declared.push_fault.PushFault.{PushFault}
use Rattle.ing_refusals.specs.declared.push_fault.PushFault.TheVariants as push
use Rattle.ing_shard.specs.declared.node_fault.NodeFault.{NodeFault}
use Rattle.ing_shard.specs.declared.node_fault.NodeFault.TheVariants as node

-- the fault of the same name
abbrev pub fault_of : PushFault → NodeFault
fault_of push.NoMemory = node.NoMemory
fault_of push.CounterFull = node.CounterFull
fault_of push.TooManyEntries = node.TooManyEntries
