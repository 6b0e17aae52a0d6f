use Rattle.std.proofs.Common.{◌≡◌, ◌+◌, reverse, vec_len}
use Rattle.ing_node.specs.Sweeps.{AreQueued}
use Rattle.ing_node.proofs.flushing.Flushing.queue_left.Given as goal

abbrev pub invariant-loop-op : goal.invariant-loop-op
invariant-loop-op g l = record {
  queue : l.sweeper.pass.queue ≡ l.self.queue.name;
  queued : AreQueued l.queued l.fn.ops.items (reverse l.left.items) l.fn.sweeper.pass l.sweeper.pass;
  all : l.queued + vec_len l.left ≡ vec_len l.fn.ops;
}

abbrev pub decreases-loop-op : goal.decreases-loop-op
decreases-loop-op g l = vec_len l.left
