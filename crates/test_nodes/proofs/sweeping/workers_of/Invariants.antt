use Rattle.std.proofs.Common.{◌≡◌, ◌≤◌, ◌-◌, vec_len}
use Rattle.std.specs.Prelude.{All}
use Rattle.std.specs.Vec.{vec_capacity}
use Rattle.ing_node.specs.Names.{IsTallyOf}
use Rattle.test_nodes.proofs.sweeping.workers_of.Given as goal

abbrev pub invariant-loop-alloc : goal.invariant-loop-alloc
invariant-loop-alloc g l = record {
  sweeper : l.sweeper.pass.queue ≡ l.flushing.queue.name;
  queue : All (λ worker. worker.pass.queue ≡ l.flushing.queue.name) l.workers.items;
  own : All (λ worker. IsTallyOf g.N.NodeName.settings.shards g.N.NodeName.books worker.flusher.tally) l.workers.items;
  few : vec_len l.workers ≤ 2;
  room : 2 ≤ vec_capacity l.workers;
}

abbrev pub decreases-loop-alloc : goal.decreases-loop-alloc
decreases-loop-alloc g l = 2 - vec_len l.workers
