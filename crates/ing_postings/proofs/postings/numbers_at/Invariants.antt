use Rattle.std.proofs.Common.{◌≡◌, take}
use Rattle.std.specs.List.{filter_map, slice_get}
use Rattle.ing_postings.specs.Streams.{numbers_of}
use Rattle.ing_postings.proofs.postings.numbers_at.Given as goal

abbrev pub invariant-loop-place : goal.invariant-loop-place
invariant-loop-place l = l.found.items ≡ numbers_of (filter_map (slice_get l.streams) (take l.place-index l.places))
