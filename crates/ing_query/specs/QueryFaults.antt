-- Which refusal a fault of a query is (own).
use Rattle.ing_refusals.specs.declared.refusal.Refusal.{Refusal}
use Rattle.ing_refusals.specs.declared.refusal.Refusal.TheVariants as refusal
use Rattle.ing_query.specs.declared.fault.QueryFault.{QueryFault}
use Rattle.ing_query.specs.declared.fault.QueryFault.TheVariants.{NoMemory, StoreFault, BadObject}

-- the refusal of the same name
abbrev pub query_refusal_of : QueryFault → Refusal
query_refusal_of NoMemory = refusal.NoMemory
query_refusal_of (StoreFault key) = refusal.StoreFault
query_refusal_of (BadObject key) = refusal.BadObject
