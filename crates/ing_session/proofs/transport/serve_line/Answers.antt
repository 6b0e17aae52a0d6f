use Rattle.std.proofs.Common.{ap, arith, inl, refl, Err}
use Rattle.std.proofs.lemmas.Result.{err_from_is_err_and}
use Rattle.ing_session.proofs.RunsLaws.{hears_first, held_same}
use Rattle.ing_session.proofs.StepsLaws.{line_answered, line_refused, no_line, no_line_left, runs_out}
use Rattle.ing_session.proofs.transport.serve_line.Goals as goal

-- the line is answered, and those at hand with it
pub returns-in_ok-taken-in-Line-clause-step : goal.returns-in_ok-taken-in-Line-clause-step
returns-in_ok-taken-in-Line-clause-step g c = λ ticks.
    let taken = c.in_ok-next_line.ensures in
    let answered = c.in_ok-taken-in-Line.ensures in
    line_answered (g.R.Read.remaining c.next_line.new.reader) (rw c.in-Line.is at taken.line) taken.held answered.answered
    c.deref.ensures.value c.ahead.ensures.bytes refl answered.settings c.skip.ensures.end refl c.skip.ensures.bytes

-- it is too long
pub returns-in_ok-refuse_long-in-TooLong-clause-step : goal.returns-in_ok-refuse_long-in-TooLong-clause-step
returns-in_ok-refuse_long-in-TooLong-clause-step g c = λ ticks.
    let taken = c.in_ok-next_line.ensures in
    line_refused c.next_line.new.replies.items c.next_line.new.line.items (rw c.in-TooLong.is at taken.line) taken.held
    c.in_ok-refuse_long-in-TooLong.ensures.text

-- there was none
pub returns-in-End-clause-step : goal.returns-in-End-clause-step
returns-in-End-clause-step g c = λ ticks.
    let taken = c.in_ok-next_line.ensures in
    no_line_left c.next_line.new.line.items (rw c.in-End.is at taken.line) taken.held

-- a read or a write failed, or memory ran out
pub returns-in_err-next_line-clause-step : goal.returns-in_err-next_line-clause-step
returns-in_err-next_line-clause-step g c = λ ticks.
    let p = err_from_is_err_and c.from_residual.result c.from_residual.ensures.1 in
    let said = c.in_err-next_line.ensures in
    no_line p.1 p.2 said.ending said.kept (λ is. said.fault (ap (λ e. Err e) is)) (λ is. said.output_fault (ap (λ e. Err e) is))

-- memory ran out at the answer
pub returns-in_err-taken-in-Line-clause-step : goal.returns-in_err-taken-in-Line-clause-step
returns-in_err-taken-in-Line-clause-step g c = λ ticks.
    let p = err_from_is_err_and c.from_residual-in_err-taken-in-Line.result c.from_residual-in_err-taken-in-Line.ensures.1 in
    let answered = c.in_err-taken-in-Line.ensures in
    let before = c.next_line.new in
    runs_out p.1 p.2 (record { heard = hears_first ticks; risen = answered.end.0; left = answered.left })
    (held_same _ (g.W.Write.contents before.writer) before.replies.items c.answer.new.replies.items c.in_ok-next_line.ensures.held answered.err)

pub returns-in_err-refuse_long-in-TooLong-clause-step : goal.returns-in_err-refuse_long-in-TooLong-clause-step
returns-in_err-refuse_long-in-TooLong-clause-step g c = λ ticks.
    let p = err_from_is_err_and c.from_residual-in_err-refuse_long-in-TooLong.result c.from_residual-in_err-refuse_long-in-TooLong.ensures.1 in
    let before = c.next_line.new in
    runs_out p.1 p.2 (record { heard = hears_first ticks; risen = omega arith; left = λ held is_held. inl is_held })
    (held_same _ (g.W.Write.contents before.writer) before.replies.items c.refuse_long.new.replies.items c.in_ok-next_line.ensures.held
    c.in_err-refuse_long-in-TooLong.ensures.err)
