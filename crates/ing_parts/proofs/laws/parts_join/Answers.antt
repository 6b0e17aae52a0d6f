use Rattle.ing_parts.proofs.PartLaws.{parts_alike, parts_both, parts_none}
use Rattle.ing_parts.proofs.laws.parts_join.Goals as goal

pub returns-clause-none : goal.returns-clause-none
returns-clause-none g c = parts_none

pub returns-clause-both : goal.returns-clause-both
returns-clause-both g c = parts_both

pub returns-clause-alike : goal.returns-clause-alike
returns-clause-alike g c = parts_alike
