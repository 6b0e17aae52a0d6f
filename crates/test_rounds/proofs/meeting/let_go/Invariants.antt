use Rattle.std.proofs.Common.{vec_len}
use Rattle.std.specs.Prelude.{All}
use Rattle.ing_node.specs.Names.{IsTallyOf}
use Rattle.test_rounds.proofs.meeting.let_go.Given as goal

abbrev pub invariant-loop-worker : goal.invariant-loop-worker
invariant-loop-worker g l = record {
  given : All (λ worker. IsTallyOf g.N.NodeName.settings.shards g.N.NodeName.books worker.flusher.tally) l.workers.items;
  own : All (IsTallyOf g.N.NodeName.settings.shards g.N.NodeName.books) l.tallies.items;
}

abbrev pub decreases-loop-worker : goal.decreases-loop-worker
decreases-loop-worker g l = vec_len l.workers
