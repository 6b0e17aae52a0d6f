use Rattle.ing_parts.proofs.FoundLaws.{rows_found}
use Rattle.ing_parts.proofs.laws.rows_are_found.Goals as goal

pub returns : goal.returns
returns c = rows_found
