use Rattle.std.proofs.Common.{◌≡◌, filter, take}
use Rattle.std.specs.List.Sorted.{IsNonDecreasing}
use Rattle.ing_labels.specs.Selectors.{agrees}
use Rattle.ing_postings.specs.Streams.{is_in}
use Rattle.ing_postings.proofs.Walked.{SameFrom}
use Rattle.ing_postings.proofs.postings.walked.Given as goal

abbrev pub invariant-loop-place : goal.invariant-loop-place
invariant-loop-place l = record {
  kept : l.kept.items ≡ filter (λ p. agrees l.op (is_in p l.list)) (take l.place-index l.places);
  rising : IsNonDecreasing l.rest;
  same : SameFrom l.places l.place-index l.list l.rest;
}
