use Rattle.ing_parts.proofs.StandLaws.{stand_alike, stand_answered, stand_beside, stand_through}
use Rattle.ing_parts.proofs.laws.standing_joins.Goals as goal

pub returns-clause-alike : goal.returns-clause-alike
returns-clause-alike c = stand_alike

pub returns-clause-through : goal.returns-clause-through
returns-clause-through c = stand_through

pub returns-clause-beside : goal.returns-clause-beside
returns-clause-beside c = λ order limit some all others. stand_beside order limit some all others

pub returns-clause-answered : goal.returns-clause-answered
returns-clause-answered c = stand_answered
