use Rattle.ing_parts.proofs.PartLaws.{listed_both, listed_of_found, parts_none}
use Rattle.ing_parts.proofs.laws.listed_rows_join.Goals as goal

pub returns-clause-none : goal.returns-clause-none
returns-clause-none g c = parts_none

pub returns-clause-both : goal.returns-clause-both
returns-clause-both g c = listed_both

pub returns-clause-of : goal.returns-clause-of
returns-clause-of g c = listed_of_found
