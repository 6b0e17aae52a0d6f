use Rattle.ing_flush.proofs.LineLaws.{begins}
use Rattle.ing_flush.proofs.queue.FlushQueue.open.Goals as goal

pub ruled-requires-clause-rule : goal.ruled-requires-clause-rule
ruled-requires-clause-rule c = begins
