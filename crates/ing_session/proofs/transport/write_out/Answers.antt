use Rattle.ing_session.proofs.FrontsLaws.{grows_none, grows_by, grows_front}
use Rattle.ing_session.proofs.transport.write_out.Goals as goal

pub returns-then-is_empty-clause-grown : goal.returns-then-is_empty-clause-grown
returns-then-is_empty-clause-grown g c = grows_none (g.W.Write.contents c.args.writer.now)

pub returns-in-Ok-clause-grown : goal.returns-in-Ok-clause-grown
returns-in-Ok-clause-grown g c = grows_by (g.W.Write.contents c.args.writer.now) (g.W.Write.contents c.put_out.new.writer) _ c.in-Ok.ensures.whole

pub returns-in-Err-clause-grown : goal.returns-in-Err-clause-grown
returns-in-Err-clause-grown g c = grows_front (g.W.Write.contents c.args.writer.now) (g.W.Write.contents c.put_out.new.writer) _ c.in-Err.ensures.front
