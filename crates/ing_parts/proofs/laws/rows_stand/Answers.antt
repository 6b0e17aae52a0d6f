use Rattle.ing_parts.proofs.FoundLaws.{kept_in_range, rows_among}
use Rattle.ing_parts.proofs.laws.rows_stand.Goals as goal

pub returns-clause-among : goal.returns-clause-among
returns-clause-among g c = rows_among

pub returns-clause-kept : goal.returns-clause-kept
returns-clause-kept g c = kept_in_range
