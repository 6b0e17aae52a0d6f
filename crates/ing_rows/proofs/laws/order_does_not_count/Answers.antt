use Rattle.ing_rows.proofs.SameLaws.{facts_same, full_same, verdicts_same, push_same}
use Rattle.ing_rows.proofs.laws.order_does_not_count.Goals as goal

pub returns-clause-facts : goal.returns-clause-facts
returns-clause-facts c = facts_same

pub returns-clause-full : goal.returns-clause-full
returns-clause-full c = full_same

pub returns-clause-verdicts : goal.returns-clause-verdicts
returns-clause-verdicts c = verdicts_same

pub returns-clause-states : goal.returns-clause-states
returns-clause-states c = push_same
