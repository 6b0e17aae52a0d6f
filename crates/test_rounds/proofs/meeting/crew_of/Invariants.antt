use Rattle.std.proofs.Common.{◌≡◌, ◌≤◌, ◌-◌, vec_len}
use Rattle.std.specs.Prelude.{All}
use Rattle.std.specs.Vec.{vec_capacity}
use Rattle.ing_node.specs.Names.{IsTallyOf}
use Rattle.test_rounds.proofs.meeting.crew_of.Given as goal

abbrev pub invariant-loop-rt : goal.invariant-loop-rt
invariant-loop-rt g l = record {
  sweeper : l.sweeper.pass.queue ≡ l.flushing.queue.name;
  queue : All (λ worker. worker.pass.queue ≡ l.flushing.queue.name) l.workers.items;
  own : All (λ worker. IsTallyOf g.N.NodeName.settings.shards g.N.NodeName.books worker.flusher.tally) l.workers.items;
  few : vec_len l.workers ≤ 2;
  room : 2 ≤ vec_capacity l.workers;
}

abbrev pub decreases-loop-rt : goal.decreases-loop-rt
decreases-loop-rt g l = 2 - vec_len l.workers
