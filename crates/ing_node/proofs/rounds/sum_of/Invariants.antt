use Rattle.std.proofs.Common.{take}
use Rattle.ing_flush.specs.Rounds.{IsSumOf}
use Rattle.ing_node.proofs.rounds.sum_of.Given as goal

abbrev pub invariant-loop-worker : goal.invariant-loop-worker
invariant-loop-worker g l = IsSumOf (λ w. w.round) (take l.worker-index l.workers) l.sum
