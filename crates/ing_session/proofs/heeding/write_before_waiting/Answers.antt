use Rattle.ing_session.proofs.FrontsLaws.{grows_none}
use Rattle.ing_session.proofs.heeding.write_before_waiting.Goals as goal

pub returns-then-at_hand-clause-grown : goal.returns-then-at_hand-clause-grown
returns-then-at_hand-clause-grown g c = grows_none (g.W.Write.contents c.args.writer.now)
