use Rattle.std.proofs.lemmas.Result.{IfOk-weaker}
use Rattle.ing_session.proofs.CausesLaws.{no_failure}
use Rattle.ing_lanes.specs.ByLane.{Refused}
use Rattle.ing_lanes.proofs.lane.Lane.query.Goals as goal

pub returns-in-Ok-clause-came : goal.returns-in-Ok-clause-came
returns-in-Ok-clause-came g c = c.find.ensures.came c.in-Ok.ensures.selector c.in-Ok.ensures.narrow

-- its text is refused
pub returns-in-Err-clause-came : goal.returns-in-Err-clause-came
returns-in-Err-clause-came g c =
    IfOk-weaker c.selector_fault.result _ _
    (λ reply made told same. record {
      answer = Refused c.in-Err.fault;
      may_be = c.in-Err.ensures.fault;
      told = made;
      causes = no_failure _;
    })
    c.selector_fault.ensures.reply
