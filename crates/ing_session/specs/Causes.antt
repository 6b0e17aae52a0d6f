-- Each failed upload and query has a cause of its own: a failure of the end of the store.
use Rattle.std.specs.Prelude.{◌≡◌, ◌⊎◌, ℕ, ◌+◌, ◌^◌, ◌≤◌}

-- So many uploads and queries failed between two readings of a store end's count of failures: it rose by as many at least, or it
-- stands at its last value, 2^64-1. It is given as 64 bits, so it is never more.
abbrev pub HaveCause : ℕ → ℕ → ℕ → Type 0
HaveCause before after failed = (before ≤ after) × ((before + failed ≤ after) ⊎ (2 ^ 64 ≤ after + 1))

-- what calls leave of an end of a store: its count of failures does not fall, and where it never fails it stays so, and the count
-- stays too
abbrev pub GoesOn : {E : Type 0} → (E → Type 0) → (E → ℕ) → E → E → Type 0
GoesOn never_fails failures old new = (failures old ≤ failures new) × (never_fails old → never_fails new × (failures new ≡ failures old))
