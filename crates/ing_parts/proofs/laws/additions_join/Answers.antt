use Rattle.ing_parts.proofs.RangeLaws.{adds_both}
use Rattle.ing_parts.proofs.laws.additions_join.Goals as goal

pub returns-clause-both : goal.returns-clause-both
returns-clause-both g c = adds_both
