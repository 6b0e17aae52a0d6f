use Rattle.ing_session.proofs.RunsLaws.{breaks_ended}
use Rattle.ing_session.proofs.transport.serve_lines.Goals as goal

-- the last write failed
pub returns-in_err-write_out-clause-output_fault : goal.returns-in_err-write_out-clause-output_fault
returns-in_err-write_out-clause-output_fault g c = λ is.
    let contents = g.W.Write.contents in
    let remaining = g.R.Read.remaining in
    let failures = g.C.Service.failures in
    let said = c.answer_all-ended.ensures in
    breaks_ended g.C.Service.manner (g.C.Service.settings_of c.args.service.now) (g.P.Ticker.said c.answer_all-ended.new.ticker) (failures c.args.end.now) (failures c.answer_all-ended.new.end) (contents c.args.writer.now) (contents c.answer_all-ended.new.writer) (contents c.write_out.new.writer) c.answer_all-ended.new.replies.items
    (remaining c.args.reader.now) (remaining c.answer_all-ended.new.reader) c.answer_all-ended.result said.grown c.in_err-write_out.ensures.front
    (c.is_output_fault.ensures.no c.if-is_output_fault.false) said.ending said.output said.input_fault said.no_memory

-- a write failed before
pub returns-then-is_output_fault-clause-output_fault : goal.returns-then-is_output_fault-clause-output_fault
returns-then-is_output_fault-clause-output_fault g c = λ is. c.answer_all-ended.ensures.output_fault (c.is_output_fault.ensures.yes c.if-is_output_fault.true)
