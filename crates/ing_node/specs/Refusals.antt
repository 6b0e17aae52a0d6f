-- Why a call through a lock is refused (own).
use Rattle.std.specs.Prelude.{◌≡◌, ◌≢◌, ◌<◌, ℕ}
use Rattle.ing_begun.specs.NodeFault.{NodeFault}
use Rattle.ing_begun.specs.NodeFault.TheVariants.{NoMemory, CounterFull, TooManyEntries, Misplaced}

-- by the holder of the lock at a place: memory ran out, or the shard there, of this number, is another one
abbrev pub IsHeldRefusal : ℕ → ℕ → NodeFault → Type 0
IsHeldRefusal place number NoMemory = Unit {0}
IsHeldRefusal place number CounterFull = ⊥
IsHeldRefusal place number TooManyEntries = ⊥
IsHeldRefusal place number (Misplaced shard) = (shard ≡ place) × (number ≢ place)

-- at the lock of a place, whatever shard stands there
abbrev pub IsLockRefusal : ℕ → NodeFault → Type 0
IsLockRefusal place NoMemory = Unit {0}
IsLockRefusal place CounterFull = ⊥
IsLockRefusal place TooManyEntries = ⊥
IsLockRefusal place (Misplaced shard) = shard ≡ place

-- of one of so many locks
abbrev pub IsRoundRefusal : ℕ → NodeFault → Type 0
IsRoundRefusal shards NoMemory = Unit {0}
IsRoundRefusal shards CounterFull = ⊥
IsRoundRefusal shards TooManyEntries = ⊥
IsRoundRefusal shards (Misplaced shard) = shard < shards

-- a share of each of so many shards is not had: one of them has no number for another share, besides
abbrev pub IsShareRefusal : ℕ → NodeFault → Type 0
IsShareRefusal shards NoMemory = Unit {0}
IsShareRefusal shards CounterFull = Unit {0}
IsShareRefusal shards TooManyEntries = ⊥
IsShareRefusal shards (Misplaced shard) = shard < shards
