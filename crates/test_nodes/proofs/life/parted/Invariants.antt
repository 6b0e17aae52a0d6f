use Rattle.std.proofs.Common.{◌≤◌, ◌+◌, ◌*◌, vec_len}
use Rattle.std.specs.Prelude.{All}
use Rattle.std.specs.Vec.{vec_capacity}
use Rattle.ing_node.specs.Names.{IsTallyOf}
use Rattle.test_nodes.proofs.life.parted.Given as goal

abbrev pub invariant-loop-hand : goal.invariant-loop-hand
invariant-loop-hand g l = record {
  own : All (IsTallyOf g.N.NodeName.settings.shards g.N.NodeName.books) l.tallies.items;
  pushers : vec_len l.pushers + vec_len l.hands ≤ vec_capacity l.pushers;
  tallies : vec_len l.tallies + vec_len l.hands * 3 ≤ vec_capacity l.tallies;
}

abbrev pub decreases-loop-hand : goal.decreases-loop-hand
decreases-loop-hand g l = vec_len l.hands
