-- Which refusal a fault of a store end is, and what a fault tells of the end (own).
use Rattle.std.specs.Prelude.{◌≡◌, ℕ, ◌≤◌, Result, Ok, Err}
use Rattle.ing_refusals.specs.Failures.{HasFailed}
use Rattle.ing_refusals.specs.declared.refusal.Refusal.{Refusal}
use Rattle.ing_refusals.specs.declared.refusal.Refusal.TheVariants as refusal
use Rattle.ing_store.specs.declared.fault.StoreFault.{StoreFault}
use Rattle.ing_store.specs.declared.fault.StoreFault.TheVariants.{NoMemory, Failed, Damaged}

-- the refusal of the same name
abbrev pub store_refusal_of : StoreFault → Refusal
store_refusal_of NoMemory = refusal.NoMemory
store_refusal_of Failed = refusal.Failed
store_refusal_of Damaged = refusal.Damaged

-- what an answer tells of the count of failures before and after the call: it does not fall, it stays where the answer is Ok or
-- want of memory, and another fault is answered only where the end has failed
abbrev pub IsCounted : {T : Type 0} → ℕ → ℕ → Result T StoreFault → Type 0
IsCounted before after (Ok answer) = after ≡ before
IsCounted before after (Err NoMemory) = after ≡ before
IsCounted before after (Err Failed) = (before ≤ after) × HasFailed before after
IsCounted before after (Err Damaged) = (before ≤ after) × HasFailed before after
