use Rattle.std.proofs.Common.{◌≡◌, ◌≤◌, vec_len}
use Rattle.std.specs.Prelude.{All}
use Rattle.ing_node.specs.Names.{AreAcceptedIn}
use Rattle.ing_node.proofs.ingester.Ingester.take_back.Given as goal

abbrev pub invariant-loop-last : goal.invariant-loop-last
invariant-loop-last g l = record {
  all : vec_len l.told ≤ g.N.NodeName.settings.shards;
  own : AreAcceptedIn g.N.NodeName.books l.told.items;
  zero : All (λ s. s.amount ≡ 0) l.told.items;
}

abbrev pub decreases-loop-last : goal.decreases-loop-last
decreases-loop-last g l = vec_len l.told
