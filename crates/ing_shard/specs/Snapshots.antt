-- What is read off the streams of a shard for a query.
use Rattle.std.specs.Prelude.{ℕ, List, [], Option, Some, None, reverse, slice_get}
use Rattle.std.specs.List.{flat_map}
use Rattle.ing_rows.specs.declared.order.Order.{Order}
use Rattle.ing_rows.specs.declared.order.Order.TheVariants.{Forward, Backward}
use Rattle.ing_rows.specs.Rows.{Row}
use Rattle.ing_shard.specs.OneStream.{Stream}
use Rattle.ing_shard.specs.Streams.{part_of}

-- the rows of a stream, if there is one
abbrev pub rows_of : Option Stream → List Row
rows_of None = []
rows_of (Some st) = (part_of st).rows

-- the rows of the streams of these numbers
abbrev pub rows_at : List Stream → List ℕ → List Row
rows_at sts = flat_map (λ n. rows_of (slice_get sts n))

-- the numbers of streams in the order in which these are looked at: the last first, where the latest entries are wanted
abbrev pub in_turn : Order → List ℕ → List ℕ
in_turn Forward numbers = numbers
in_turn Backward numbers = reverse numbers
