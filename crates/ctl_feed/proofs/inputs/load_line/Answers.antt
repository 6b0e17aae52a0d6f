use Rattle.ctl_feed.specs.Readings.{read_by}
use Rattle.ctl_feed.proofs.ReadingLaws.{read_is}
use Rattle.ctl_feed.proofs.InputLaws.{loads_after, loads_beside}
use Rattle.ctl_feed.proofs.inputs.load_line.Goals as goal

pub returns-in-Ok-None-clause-taken : goal.returns-in-Ok-None-clause-taken
returns-in-Ok-None-clause-taken g c =
    λ same. loads_beside (read_by c.args.reading.now) c.args.loader.now c.take.new.self c.args.line.now c.text_of-text.result.now c.in_ok-time.time (g.W.Write.contents c.args.writer.now) (read_is c.args.reading.now c.args.line.now c.text_of-text.result.now c.in_ok-time.time c.text_of-text.ensures c.in_ok-time.ensures) (rw c.in-Ok-None.field-0-is at c.in-Ok-None.ensures.taken)

pub returns-in_ok-put-in-Ok-Some-clause-taken : goal.returns-in_ok-put-in-Ok-Some-clause-taken
returns-in_ok-put-in-Ok-Some-clause-taken g c =
    λ same. loads_after (read_by c.args.reading.now) c.args.loader.now c.take.new.self c.args.line.now c.text_of-text.result.now c.in-Ok-Some.command.items c.in_ok-time.time (g.W.Write.contents c.args.writer.now) (g.W.Write.contents c.put.new.writer)
    (read_is c.args.reading.now c.args.line.now c.text_of-text.result.now c.in_ok-time.time c.text_of-text.ensures c.in_ok-time.ensures) (rw c.in-Ok-Some.field-0-is at c.in-Ok-Some.ensures.taken) c.in_ok-put-in-Ok-Some.ensures
