-- What the receipts of an open ticket mean (own).
use Rattle.std.specs.Prelude.{ℕ, List, Option, IfSome}
use Rattle.ing_parts.specs.Listings.{Listed}
use Rattle.ing_shard.specs.Flights.{Flown, IsChunkUploaded, IsRowUploaded}

-- the whole text of the chunk, and its index row
pub record AreReceipts {R : Type 0} (bytes name : R → List ℕ) (f : Flown) (listing : Option Listed) (row_receipt : Option R) : Type 0 where
  pub chunk : IfSome listing (λ l. IsChunkUploaded f l)
  pub row : IfSome row_receipt (λ r. IsRowUploaded f (bytes r) (name r))
