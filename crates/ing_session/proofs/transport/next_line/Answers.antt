use Rattle.std.proofs.Common.{◌++◌, sym, ◌∙◌}
use Rattle.std.proofs.lemmas.Result.{err_from_is_err_and}
use Rattle.ing_session.specs.Unread.{unread}
use Rattle.ing_session.proofs.EndingsLaws.{no_line_output, of_no_memory, same_fault}
use Rattle.ing_session.proofs.FrontsLaws.{front_kept, grows_on}
use Rattle.ing_session.proofs.LinesLaws.{HasNoFeed-append, consumes_ahead}
use Rattle.ing_session.proofs.transport.next_line.Goals as goal

-- what was read ahead and what was read after it have no line feed
pub returns-in_err-read_on-in-Open-clause-fault : goal.returns-in_err-read_on-in-Open-clause-fault
returns-in_err-read_on-in-Open-clause-fault g c = λ is.
    let remaining = g.R.Read.remaining in
    let p = err_from_is_err_and c.from_residual-in_err-read_on-in-Open.result c.from_residual-in_err-read_on-in-Open.ensures.1 in
    let read = c.in_err-read_on-in-Open.ensures.fault (of_no_memory _ _ _ p.1 p.2 is) in
    let ahead = rw c.in-Open.is at c.in_ok-too_long.ensures.part in
    let before = unread c.args.lines.now in
    (sym c.is_ended.ensures ∙ c.if-is_ended.false, before ++ read.0, HasNoFeed-append before read.0 ahead.0 read.1, consumes_ahead (remaining c.args.reader.now) (remaining c.read_on.new.reader) before read.0 read.2)

-- a write failed
pub returns-in_err-write_enough-clause-output_fault : goal.returns-in_err-write_enough-clause-output_fault
returns-in_err-write_enough-clause-output_fault g c = λ is. c.in_err-write_enough.ensures.front

pub returns-in_err-write_out-in-Open-clause-output_fault : goal.returns-in_err-write_out-in-Open-clause-output_fault
returns-in_err-write_out-in-Open-clause-output_fault g c = λ is.
    let contents = g.W.Write.contents in
    let before = c.in_ok-write_enough.ensures in
    front_kept (contents c.args.writer.now) (contents c.write_enough.new.writer) (contents c.write_out.new.writer) c.args.replies.now.items c.write_enough.new.replies.items before.grown before.held c.in_err-write_out-in-Open.ensures.front

pub returns-in_err-read_on-in-Open-clause-output_fault : goal.returns-in_err-read_on-in-Open-clause-output_fault
returns-in_err-read_on-in-Open-clause-output_fault g c = λ is.
    let p = err_from_is_err_and c.from_residual-in_err-read_on-in-Open.result c.from_residual-in_err-read_on-in-Open.ensures.1 in
    absurd (no_line_output _ (same_fault _ _ _ _ p.1 p.2 is))

pub returns-in_err-write_out-in-Open-clause-grown : goal.returns-in_err-write_out-in-Open-clause-grown
returns-in_err-write_out-in-Open-clause-grown g c =
    let contents = g.W.Write.contents in
    grows_on (contents c.args.writer.now) (contents c.write_enough.new.writer) (contents c.write_out.new.writer) c.in_ok-write_enough.ensures.grown c.in_err-write_out-in-Open.ensures.grown

pub returns-in_err-read_on-in-Open-clause-grown : goal.returns-in_err-read_on-in-Open-clause-grown
returns-in_err-read_on-in-Open-clause-grown g c =
    let contents = g.W.Write.contents in
    grows_on (contents c.args.writer.now) (contents c.write_enough.new.writer) (contents c.write_out.new.writer) c.in_ok-write_enough.ensures.grown c.in_ok-write_out-in-Open.ensures.grown

pub returns-in_ok-read_on-in-Open-clause-grown : goal.returns-in_ok-read_on-in-Open-clause-grown
returns-in_ok-read_on-in-Open-clause-grown g c =
    let contents = g.W.Write.contents in
    grows_on (contents c.args.writer.now) (contents c.write_enough.new.writer) (contents c.write_out.new.writer) c.in_ok-write_enough.ensures.grown c.in_ok-write_out-in-Open.ensures.grown
