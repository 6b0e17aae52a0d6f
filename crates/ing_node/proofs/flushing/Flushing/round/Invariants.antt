use Rattle.ing_node.specs.Sweeps.{AreBelow}
use Rattle.ing_node.proofs.flushing.Flushing.round.Given as goal

abbrev pub invariant-loop-shard : goal.invariant-loop-shard
invariant-loop-shard g l = AreBelow g.N.NodeName.settings.shards l.ops.items
