-- What the shards of one ingester began with (own).
use Rattle.std.specs.Prelude.{ℕ, List, [], Option, Some, None, map, slice_get}
use Rattle.ing_rows.specs.Rows.{StreamKey, count_of}
use Rattle.ing_tally.specs.Books.{ShareState}
use Rattle.ing_begun.specs.Begun.{BegunState}

-- shares of the entries, and of those of them that are stored, and how many entries each stream had, shard by shard
pub record EarlierState : Type 0 where
  pub told : List ShareState
  pub stored : List ShareState
  pub fronts : List (StreamKey → ℕ)

-- the shares alone
pub record EarlierShares : Type 0 where
  pub told : List ShareState
  pub stored : List ShareState

-- how many entries each stream of a shard has that an ingester begins with
abbrev pub fronts_in : {D : Type 0} → BegunState D → StreamKey → ℕ
fronts_in b = count_of b.shard.memory.state.rows

-- what shards began with, in the order of their numbers
abbrev pub earlier_of : {D : Type 0} → List (BegunState D) → EarlierState
earlier_of begun = record { told = map (λ b. b.accepted) begun; stored = map (λ b. b.stored) begun; fronts = map fronts_in begun }

-- how many entries each stream of the shard at a place had
abbrev pub had_in : Option (StreamKey → ℕ) → StreamKey → ℕ
had_in None s = 0
had_in (Some had) s = had s

abbrev pub had_at : EarlierState → ℕ → StreamKey → ℕ
had_at earlier place = had_in (slice_get earlier.fronts place)

-- what there is of no shard, for where there is no ingester
abbrev pub no_earlier : EarlierState
no_earlier = record { told = []; stored = []; fronts = [] }
