use Rattle.std.proofs.Common.{◌≡◌, filter, take}
use Rattle.std.specs.List.{list_all}
use Rattle.ing_postings.specs.Streams.{picks_at}
use Rattle.ing_postings.proofs.postings.kept_places.Given as goal

abbrev pub invariant-loop-matcher : goal.invariant-loop-matcher
invariant-loop-matcher l =
    l.kept.items ≡ filter (λ p. list_all (λ m. picks_at l.streams m p) (take l.matcher-index l.matchers)) l.places
