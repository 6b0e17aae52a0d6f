-- How a flush leaves a flusher's shares, and what it tells of the store (own).
use Rattle.std.specs.Prelude.{◌≡◌, ◌≢◌, ◌<◌, ◌≤◌, ℕ, ◌+◌, List, slice_get}
use Rattle.ing_refusals.specs.Failures.{HasFailed}
use Rattle.ing_store.specs.declared.fault.StoreFault.{StoreFault}
use Rattle.ing_store.specs.declared.fault.StoreFault.TheVariants.{NoMemory, Failed, Damaged}
use Rattle.ing_tally.specs.Books.{ShareState}
use Rattle.ing_flush.specs.Tallies.{amount_at}
use Rattle.ing_flush.specs.declared.flush.Flushed.{Flushed}
use Rattle.ing_flush.specs.declared.flush.Flushed.TheVariants.{Stored, Nothing, GaveBack, Strange}

-- one share rose by so much, and the others stay
pub record RisesBy (entries shard : ℕ) (old new : List ShareState) : Type 0 where
  pub some : 0 < entries
  pub rose : amount_at shard new ≡ amount_at shard old + entries
  pub others : (i : ℕ) → i ≢ shard → slice_get new i ≡ slice_get old i

-- the share of the shard rose by what was stored; where nothing was, all shares stay
abbrev pub IsFlushed : Flushed → ℕ → List ShareState → List ShareState → Type 0
IsFlushed (Stored entries) shard old new = RisesBy entries shard old new
IsFlushed Nothing shard old new = new ≡ old
IsFlushed (GaveBack why) shard old new = new ≡ old
IsFlushed (Strange stray) shard old new = new ≡ old

-- the end's count of failures before and after: it does not fall, it stays where the chunk is stored, none waited or memory ran out,
-- and a chunk is given back for a fault of the store only where the end has failed
abbrev pub IsCounted : ℕ → ℕ → Flushed → Type 0
IsCounted before after (Stored entries) = after ≡ before
IsCounted before after Nothing = after ≡ before
IsCounted before after (GaveBack NoMemory) = after ≡ before
IsCounted before after (GaveBack Failed) = (before ≤ after) × HasFailed before after
IsCounted before after (GaveBack Damaged) = (before ≤ after) × HasFailed before after
IsCounted before after (Strange stray) = before ≤ after

-- it was given back for this fault, or it could not be
abbrev pub IsGivenBack : StoreFault → Flushed → Type 0
IsGivenBack fault (Stored entries) = ⊥
IsGivenBack fault Nothing = ⊥
IsGivenBack fault (GaveBack why) = why ≡ fault
IsGivenBack fault (Strange stray) = Unit {0}
