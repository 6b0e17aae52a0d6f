use Rattle.std.proofs.Common.{◌≡◌, filter, take}
use Rattle.ing_postings.specs.Streams.{picks_at}
use Rattle.ing_postings.proofs.postings.labelled.Given as goal

abbrev pub invariant-loop-place : goal.invariant-loop-place
invariant-loop-place l = l.kept.items ≡ filter (picks_at l.streams l.matcher) (take l.place-index l.places)
