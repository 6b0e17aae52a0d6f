use Rattle.std.proofs.Common.{◌≡◌, ◌≤◌, ◌+◌, vec_len}
use Rattle.std.specs.Prelude.{All}
use Rattle.std.specs.Vec.{vec_capacity}
use Rattle.ing_node.specs.Names.{IsTallyOf}
use Rattle.test_nodes.proofs.sweeping.Sweeping.into_tallies.Given as goal

abbrev pub invariant-loop-worker : goal.invariant-loop-worker
invariant-loop-worker g l = record {
  given : All (λ worker. IsTallyOf g.N.NodeName.settings.shards g.N.NodeName.books worker.flusher.tally) l.workers.items;
  own : All (IsTallyOf g.N.NodeName.settings.shards g.N.NodeName.books) l.tallies.items;
  few : vec_len l.tallies + vec_len l.workers ≤ vec_len l.fn.tallies + 2;
  room : vec_capacity l.tallies ≡ vec_capacity l.fn.tallies;
}

abbrev pub decreases-loop-worker : goal.decreases-loop-worker
decreases-loop-worker g l = vec_len l.workers
