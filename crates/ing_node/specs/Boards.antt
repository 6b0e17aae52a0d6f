-- What is read of the shards of one ingester without a lock (own).
use Rattle.std.specs.Prelude.{◌≡◌, ◌≤◌, ℕ, List, Option, Some, None, slice_get}
use Rattle.ing_tally.specs.Counts.{ReaderState}
use Rattle.ing_tally.specs.declared.counts.Counts.{Counts}
use Rattle.ing_begun.specs.Books.{BookNames}

-- each reads the counts of the shard whose number is its place
abbrev pub AreReadersOf : (ℕ → BookNames) → List ReaderState → Type 0
AreReadersOf books readers = (i : ℕ) (r : ReaderState) → slice_get readers i ≡ Some r → r.name ≡ (books i).counts

abbrev pub no_counts : Counts
no_counts = record { accepted = 0; stored = 0 }

abbrev pub known_of : Option ReaderState → Counts
known_of None = no_counts
known_of (Some r) = record { accepted = r.accepted; stored = r.stored }

abbrev pub readings_of : Option ReaderState → ℕ
readings_of None = 0
readings_of (Some r) = r.readings

-- what is known of a shard, and how often it was read
abbrev pub known_at : ℕ → List ReaderState → Counts
known_at shard readers = known_of (slice_get readers shard)

abbrev pub readings_at : ℕ → List ReaderState → ℕ
readings_at shard readers = readings_of (slice_get readers shard)

-- these counts are no less than what was known
abbrev pub IsNoLess : Counts → Counts → Type 0
IsNoLess known counts = (known.accepted ≤ counts.accepted) × (known.stored ≤ counts.stored)
