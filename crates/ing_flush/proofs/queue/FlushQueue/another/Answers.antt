use Rattle.ing_flush.proofs.LineLaws.{forks}
use Rattle.ing_flush.proofs.queue.FlushQueue.another.Goals as goal

pub another-pass-requires-clause-rule : goal.another-pass-requires-clause-rule
another-pass-requires-clause-rule c = forks _ _
