use Rattle.ing_parts.proofs.FoundLaws.{rows_both, rows_of}
use Rattle.ing_parts.proofs.laws.rows_join.Goals as goal

pub returns-clause-both : goal.returns-clause-both
returns-clause-both g c = rows_both

pub returns-clause-of : goal.returns-clause-of
returns-clause-of g c = rows_of
