use Rattle.ing_limits.proofs.DurationTexts.{durations_are_exact}
use Rattle.ing_limits.proofs.laws.durations_are_sums_of_parts.Goals as goal

pub returns : goal.returns
returns c = durations_are_exact
