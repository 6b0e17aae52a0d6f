-- How the parts of one ingester are tied to its names (own).
use Rattle.std.specs.Prelude.{◌≡◌, ℕ, false, List, [], Option, Some, None, length, slice_get}
use Rattle.std.specs.FinMap.{from_entries}
use Rattle.ing_rows.specs.Defaults.{defaults}
use Rattle.ing_limits.specs.Settings.{StoreSettings}
use Rattle.ing_tally.specs.Books.{ShareState, no_book}
use Rattle.ing_begun.specs.Books.{BookNames, names_of}
use Rattle.ing_begun.specs.Contents.{Contents}
use Rattle.ing_begun.specs.Begun.{BegunState}
use Rattle.ing_flush.specs.Tallies.{AreStoredIn}

-- each share is of the accepted entries of the shard whose number is its place
abbrev pub AreAcceptedIn : (ℕ → BookNames) → List ShareState → Type 0
AreAcceptedIn books shares = (i : ℕ) (s : ShareState) → slice_get shares i ≡ Some s → s.book ≡ (books i).accepted

-- a shard has these settings, and the books that are named for its number
pub record IsNamed (named : StoreSettings) (names : ℕ → BookNames) (shard : Contents) : Type 0 where
  pub settings : shard.settings ≡ named
  pub books : names_of shard.books ≡ names shard.number

-- names and settings for where there are none
abbrev pub no_names : BookNames
no_names = record { accepted = no_book; flight = no_book; stored = no_book; counts = no_book }

abbrev pub no_settings : StoreSettings
no_settings = record { shards = 1; flushers = 1; flush_queue_length = 1; flush_check_period = 0; checkpoint_log_size = 0; diaries = false; rules = defaults; tenants = from_entries [] }

-- the books of the shard at a place of a list
abbrev pub names_in : {D : Type 0} → Option (BegunState D) → BookNames
names_in None = no_names
names_in (Some b) = names_of b.shard.memory.books

abbrev pub names_at : {D : Type 0} → List (BegunState D) → ℕ → BookNames
names_at begun i = names_in (slice_get begun i)

-- the shard at each place of a list has the books that are named for the place
abbrev pub AreNamed : {D : Type 0} → (ℕ → BookNames) → List (BegunState D) → Type 0
AreNamed {D = D} books begun = (i : ℕ) (b : BegunState D) → slice_get begun i ≡ Some b → names_of b.shard.memory.books ≡ books i

-- a tally of the stored entries of all shards
abbrev pub IsTallyOf : ℕ → (ℕ → BookNames) → List ShareState → Type 0
IsTallyOf shards books tally = (length tally ≡ shards) × AreStoredIn books tally
