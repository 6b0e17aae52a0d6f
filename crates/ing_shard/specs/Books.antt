-- The books of a shard, as contracts see them: each is a number that shares outside the shard add up to (own).
use Rattle.std.specs.Prelude.{ℕ, ◌+◌}
use Rattle.ing_tally.specs.Books.{BookName, BookState}

-- how many entries were accepted, how many are in flight, and how many are stored; and the name of the two counts that tell
-- without a lock how many were accepted and how many are stored
pub record BookStates : Type 0 where
  pub accepted : BookState
  pub flight : BookState
  pub stored : BookState
  pub counts : BookName

pub record BookNames : Type 0 where
  pub accepted : BookName
  pub flight : BookName
  pub stored : BookName
  pub counts : BookName

abbrev pub names_of : BookStates → BookNames
names_of books = record { accepted = books.accepted.name; flight = books.flight.name; stored = books.stored.name; counts = books.counts }

-- one of its shares has so much more
abbrev pub raised : ℕ → BookState → BookState
raised n book = record book { number = book.number + n }

-- one more of its shares is out, which has so much
abbrev pub lent : ℕ → BookState → BookState
lent n book = record book { number = book.number + n; out = book.out + 1 }

-- and one that has nothing
abbrev pub issued : BookState → BookState
issued book = record book { out = book.out + 1 }

-- ---- what the books count

-- entries accepted, entries and chunks in flight, entries stored
pub record Count : Type 0 where
  pub accepted : ℕ
  pub flying : ℕ
  pub chunks : ℕ
  pub stored : ℕ

-- what they tell: each chunk in flight has a share of its own
abbrev pub told_by : BookStates → Count
told_by books = record { accepted = books.accepted.number; flying = books.flight.number; chunks = books.flight.out; stored = books.stored.number }

-- so many more entries were accepted
abbrev pub with_accepted : ℕ → Count → Count
with_accepted n count = record count { accepted = count.accepted + n }

-- one more chunk of so many entries is in flight
abbrev pub with_flown : ℕ → Count → Count
with_flown n count = record count { flying = count.flying + n; chunks = count.chunks + 1 }

-- so many more entries are stored
abbrev pub with_stored : ℕ → Count → Count
with_stored n count = record count { stored = count.stored + n }
