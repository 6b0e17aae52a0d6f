use Rattle.std.proofs.Common.{◌≡◌, ◌+◌, ◌++◌, ◌≤◌, false, map, reverse, vec_len}
use Rattle.std.specs.List.{AllByRecursion}
use Rattle.std.specs.Vec.{vec_capacity}
use Rattle.ing_begun.specs.Begun.{AreBegunFrom, HasTornLog}
use Rattle.ing_node.proofs.PlaceLaws.{AreNamedFrom}
use Rattle.ing_node.proofs.ingester.Ingester.open.Given as goal

-- the next shards have the next numbers, and what stands so far and what is to come is all
abbrev pub invariant-loop-begun : goal.invariant-loop-begun
invariant-loop-begun g l = record {
  made : vec_len l.opening.locks + vec_len l.last_first ≡ g.N.NodeName.settings.shards;
  locks : vec_len l.opening.locks + vec_len l.last_first ≤ vec_capacity l.opening.locks;
  told_room : vec_len l.opening.locks + vec_len l.last_first ≤ vec_capacity l.opening.told;
  stored_room : vec_len l.opening.locks + vec_len l.last_first ≤ vec_capacity l.opening.stored;
  placed : AreBegunFrom g.N.NodeName.settings (vec_len l.opening.locks) (reverse l.last_first.items);
  named : AreNamedFrom g.N.NodeName.books (vec_len l.opening.locks) (reverse l.last_first.items);
  torn : g.N.NodeName.has_logs ≡ false → AllByRecursion HasTornLog (reverse l.last_first.items);
  told : l.opening.told.items ++ map (λ b. b.accepted) (reverse l.last_first.items) ≡ map (λ b. b.accepted) (reverse l.initial.last_first.items);
  stored : l.opening.stored.items ++ map (λ b. b.stored) (reverse l.last_first.items) ≡ map (λ b. b.stored) (reverse l.initial.last_first.items);
}

abbrev pub decreases-loop-begun : goal.decreases-loop-begun
decreases-loop-begun g l = vec_len l.last_first
