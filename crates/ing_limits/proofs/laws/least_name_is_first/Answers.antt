use Rattle.ing_limits.proofs.First.{least_is_first}
use Rattle.ing_limits.proofs.laws.least_name_is_first.Goals as goal

pub returns : goal.returns
returns c = least_is_first
