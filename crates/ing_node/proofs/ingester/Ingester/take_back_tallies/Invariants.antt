use Rattle.std.proofs.Common.{◌≡◌, ◌≤◌, vec_len}
use Rattle.std.specs.Prelude.{All}
use Rattle.ing_flush.specs.Tallies.{AreStoredIn}
use Rattle.ing_node.proofs.ingester.Ingester.take_back_tallies.Given as goal

abbrev pub invariant-loop-share : goal.invariant-loop-share
invariant-loop-share g l = record {
  all : vec_len l.shares ≤ g.N.NodeName.settings.shards;
  own : AreStoredIn g.N.NodeName.books l.shares.items;
  zero : All (λ s. s.amount ≡ 0) l.shares.items;
}

abbrev pub decreases-loop-share : goal.decreases-loop-share
decreases-loop-share g l = vec_len l.shares
