use Rattle.ing_rows.proofs.FactLaws.{facts_accepted, verdicts_told, pushed_in_turn}
use Rattle.ing_rows.proofs.laws.facts_suffice.Goals as goal

pub returns-clause-facts : goal.returns-clause-facts
returns-clause-facts c = facts_accepted

pub returns-clause-verdicts : goal.returns-clause-verdicts
returns-clause-verdicts c = verdicts_told

pub returns-clause-state : goal.returns-clause-state
returns-clause-state c = pushed_in_turn
