use Rattle.std.proofs.Common.{Bool, true, ℕ, List}
use Rattle.std.specs.Prelude.{Option, Ok}
use Rattle.ing_session.specs.Causes.{GoesOn}
use Rattle.ing_session.specs.Fronts.{Grows}
use Rattle.ing_session.specs.Steps.{StepsTo}
use Rattle.ing_session.proofs.heeding.heed_all.Given as goal

-- whatever is left to be read, all that was said since is done
abbrev pub invariant-loop : goal.invariant-loop
invariant-loop g l =
    let service = g.C.Service in
    let contents = g.W.Write.contents in
    record {
      step : (at_end : Bool) (left rest : Option (List ℕ)) → StepsTo {T = Unit {0}} service.manner (λ _. true)
          (record {
            ticks = g.P.Ticker.said l.fn.ticker;
            settings = service.settings_of l.fn.service;
            holds = service.holds l.fn.service;
            leaves = service.leaves l.fn.service;
            failed = service.failures l.fn.end;
            contents = contents l.fn.writer;
            replies = l.fn.replies.items;
            at_end = at_end;
            left = left;
            rest = rest;
          })
          (record {
            ticks = g.P.Ticker.said l.ticker;
            settings = service.settings_of l.service;
            holds = service.holds l.service;
            leaves = service.leaves l.service;
            failed = service.failures l.end;
            contents = contents l.writer;
            replies = l.replies.items;
            at_end = at_end;
            left = left;
            rest = rest;
          })
          (Ok tt);
      grown : Grows (contents l.fn.writer) (contents l.writer);
      end : GoesOn service.never_fails service.failures l.fn.end l.end;
    }
