-- How a `Postings` holds its streams.
use Rattle.std.specs.Prelude.{All}
use Rattle.std.specs.List.Sorted.{IsStrictlyIncreasing}
use Rattle.ing_labels.specs.Labels.{IsLabelSet}
use Rattle.ing_postings.specs.Streams.{numbers_of}
use Rattle.ing_postings.specs.Index.{IsIndexOf}
use Rattle.ing_postings.specs.declared.postings.Postings.TheInside.{Inside}

-- the numbers rise, each stream has the labels of a stream, and each list of the index is the one that
-- the streams give when it is computed afresh
pub record IsIndexed (a : Inside) : Type 0 where
  pub rising : IsStrictlyIncreasing (numbers_of a.streams.items)
  pub labels : All (λ s. IsLabelSet s.labels) a.streams.items
  pub index : IsIndexOf a.index a.streams.items
