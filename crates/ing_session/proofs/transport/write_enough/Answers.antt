use Rattle.ing_session.proofs.FrontsLaws.{grows_none}
use Rattle.ing_session.proofs.transport.write_enough.Goals as goal

pub returns-then-len-lt-ENOUGH-clause-grown : goal.returns-then-len-lt-ENOUGH-clause-grown
returns-then-len-lt-ENOUGH-clause-grown g c = grows_none (g.W.Write.contents c.args.writer.now)
