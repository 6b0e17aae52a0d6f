use Rattle.ing_flush.proofs.LineLaws.{learns, puts}
use Rattle.ing_flush.proofs.queue.FlushQueue.put.Goals as goal

pub push_as-requires-clause-rule : goal.push_as-requires-clause-rule
push_as-requires-clause-rule g c = (puts _ _ _ _, learns _ _)
