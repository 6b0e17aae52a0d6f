use Rattle.std.proofs.Common.{◌≡◌, Result, Ok, Err, ap, refl}
use Rattle.std.proofs.lemmas.Result.{err_from_is_err_and}
use Rattle.std.specs.Prelude.{OnErr}
use Rattle.ing_session.proofs.EndingsLaws.{same_fault}
use Rattle.ing_session.proofs.KnownLaws.{if_some_then, on_ok_then}
use Rattle.ing_session.proofs.RunsLaws.{reported, unreported}
use Rattle.ing_session.proofs.StepsLaws.{answered_all, begins, memory_ran_out, read_failed, write_failed}
use Rattle.ing_session.proofs.transport.answer_all.Goals as goal

on_err_of : {T E P : Type 0} (r : Result T E) (e : E) → r ≡ Err e → OnErr r P → P
on_err_of (Ok x) e is p = absurd cc
on_err_of (Err f) e is p = p

-- the report is made
pub returns-clause-output : goal.returns-clause-output
returns-clause-output g c =
    let contents = g.W.Write.contents in
    let service = g.C.Service in
    let known = g.R.Read.remaining c.args.reader.now in
    let lines = c.in_ok-lines.ensures in
    let new = c.answer_lines.new in
    on_ok_then c.report.result
    (λ text. if_some_then _ _ known
    (λ input answered. reported service.manner (service.settings_of c.args.service.now) (g.P.Ticker.said new.ticker) (service.holds new.service)
    input (service.failures c.args.end.now) (service.failures new.end) (contents c.args.writer.now) (contents new.writer) new.replies.items
    c.report.new.replies.items answered text)
    (answered_all (Ok c.in_ok-answer_lines.field-0) c.in_ok-answer_lines.ensures.step
    (begins known c.requires.none lines.open lines.nothing_read refl c.requires.nothing c.requires.unsaid)))
    c.report.ensures.text

-- memory ran out at the report
pub returns-clause-no_memory : goal.returns-clause-no_memory
returns-clause-no_memory g c = λ is.
    let contents = g.W.Write.contents in
    let service = g.C.Service in
    let known = g.R.Read.remaining c.args.reader.now in
    let lines = c.in_ok-lines.ensures in
    let new = c.answer_lines.new in
    if_some_then _ _ known
    (λ input answered. unreported service.manner (service.settings_of c.args.service.now) (g.P.Ticker.said new.ticker) (service.holds new.service)
    input (service.failures c.args.end.now) (service.failures new.end) (contents c.args.writer.now) (contents new.writer) new.replies.items
    c.report.new.replies.items answered (on_err_of c.report.result _ is c.report.ensures.err))
    (answered_all (Ok c.in_ok-answer_lines.field-0) c.in_ok-answer_lines.ensures.step
    (begins known c.requires.none lines.open lines.nothing_read refl c.requires.nothing c.requires.unsaid))

-- it ends before the report

pub returns-in_err-answer_lines-clause-input_fault : goal.returns-in_err-answer_lines-clause-input_fault
returns-in_err-answer_lines-clause-input_fault g c = λ is.
    let p = err_from_is_err_and c.from_residual-in_err-answer_lines.result c.from_residual-in_err-answer_lines.ensures.1 in
    let known = g.R.Read.remaining c.args.reader.now in
    let lines = c.in_ok-lines.ensures in
    read_failed c.in_err-answer_lines.ensures.step
    (begins known c.requires.none lines.open lines.nothing_read refl c.requires.nothing c.requires.unsaid)
    (ap (λ e. Err e) (same_fault _ _ _ _ p.1 p.2 is))

pub returns-in_err-answer_lines-clause-no_memory : goal.returns-in_err-answer_lines-clause-no_memory
returns-in_err-answer_lines-clause-no_memory g c = λ is.
    let p = err_from_is_err_and c.from_residual-in_err-answer_lines.result c.from_residual-in_err-answer_lines.ensures.1 in
    let known = g.R.Read.remaining c.args.reader.now in
    let lines = c.in_ok-lines.ensures in
    memory_ran_out c.in_err-answer_lines.ensures.step
    (begins known c.requires.none lines.open lines.nothing_read refl c.requires.nothing c.requires.unsaid)
    (ap (λ e. Err e) (same_fault _ _ _ _ p.1 p.2 is))

pub returns-in_err-answer_lines-clause-output_fault : goal.returns-in_err-answer_lines-clause-output_fault
returns-in_err-answer_lines-clause-output_fault g c = λ is.
    let p = err_from_is_err_and c.from_residual-in_err-answer_lines.result c.from_residual-in_err-answer_lines.ensures.1 in
    let known = g.R.Read.remaining c.args.reader.now in
    let lines = c.in_ok-lines.ensures in
    write_failed c.in_err-answer_lines.ensures.step
    (begins known c.requires.none lines.open lines.nothing_read refl c.requires.nothing c.requires.unsaid)
    (ap (λ e. Err e) (same_fault _ _ _ _ p.1 p.2 is))
