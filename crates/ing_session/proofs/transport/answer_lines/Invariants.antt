use Rattle.std.proofs.Common.{◌-◌, ◌^◌, true}
use Rattle.std.specs.Prelude.{Ok}
use Rattle.ing_session.specs.Causes.{GoesOn}
use Rattle.ing_session.specs.Fronts.{Grows}
use Rattle.ing_session.specs.Steps.{StepsTo}
use Rattle.ing_session.specs.Unread.{left, is_ended, progress}
use Rattle.ing_session.proofs.transport.answer_lines.Given as goal

-- where lines were answered before, those that were taken since are answered too
abbrev pub invariant-loop-line : goal.invariant-loop-line
invariant-loop-line g l =
    let service = g.C.Service in
    let contents = g.W.Write.contents in
    let remaining = g.R.Read.remaining in
    record {
      step : StepsTo {T = Unit {0}} service.manner (λ _. true)
          (record {
            ticks = g.P.Ticker.said l.fn.ticker;
            settings = service.settings_of l.fn.service;
            holds = service.holds l.fn.service;
            leaves = service.leaves l.fn.service;
            failed = service.failures l.fn.end;
            contents = contents l.fn.writer;
            replies = l.fn.replies.items;
            at_end = is_ended l.fn.lines;
            left = left l.fn.lines (remaining l.fn.reader);
            rest = remaining l.fn.reader;
          })
          (record {
            ticks = g.P.Ticker.said l.ticker;
            settings = service.settings_of l.service;
            holds = service.holds l.service;
            leaves = service.leaves l.service;
            failed = service.failures l.end;
            contents = contents l.writer;
            replies = l.replies.items;
            at_end = is_ended l.lines;
            left = left l.lines (remaining l.reader);
            rest = remaining l.reader;
          })
          (Ok tt);
      grown : Grows (contents l.fn.writer) (contents l.writer);
      end : GoesOn service.never_fails service.failures l.fn.end l.end;
    }

-- each turn takes a byte or makes a read, and reads are bounded
abbrev pub decreases-loop-line : goal.decreases-loop-line
decreases-loop-line g l = 2 ^ 57 - progress l.lines
