-- Chunks that are claimed and not settled yet: each is in flight in its shard, by whose number it is found.
use Rattle.std.specs.Prelude.{◌≡◌, ◌≢◌, ◌<◌, List, length, get_or}
use Rattle.ing_tally.specs.Books.{BookName}
use Rattle.ing_durable.specs.Contents.{Contents}
use Rattle.ing_durable.specs.Flights.{Flown, IsInFlight}

-- Its ticket's share is of the book of its shard; these are the books by which shards count what is in flight.
abbrev pub IsLentBy : List BookName → Flown → BookName → Type 0
IsLentBy books f book = (f.shard < length books) × ((d : BookName) → book ≡ get_or books f.shard d)

-- it is in flight in its shard
abbrev pub FliesIn : List Contents → Flown → Type 0
FliesIn shards f = (d : Contents) → IsInFlight f (get_or shards f.shard d)

-- they are two
abbrev pub AreApart : Flown → Flown → Type 0
AreApart f g = f.shard ≡ g.shard → f.flight ≢ g.flight
