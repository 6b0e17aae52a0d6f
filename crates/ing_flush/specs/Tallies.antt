-- What contracts see of a flusher's shares, one for each shard (own).
use Rattle.std.specs.Prelude.{◌≡◌, ℕ, List, Some, slice_get, slice_index_or}
use Rattle.ing_tally.specs.Books.{ShareState, no_book}
use Rattle.ing_shard.specs.Books.{BookNames}

-- each share is of the stored entries of the shard whose number is its place
abbrev pub AreStoredIn : (ℕ → BookNames) → List ShareState → Type 0
AreStoredIn books shares = (i : ℕ) (s : ShareState) → slice_get shares i ≡ Some s → s.book ≡ (books i).stored

-- what there is of the shard of a number; 0 where there is no share of it
abbrev pub amount_at : ℕ → List ShareState → ℕ
amount_at i shares = (slice_index_or shares i (record { book = no_book; amount = 0 })).amount
