use Rattle.std.proofs.Common.{refl}
use Rattle.ing_limits.specs.Durations.{parts_sum}
use Rattle.ing_limits.proofs.laws.worked_durations.Goals as goal

pub returns : goal.returns
unfolding parts_sum
returns c = record { parts = refl; units = refl; greatest = refl; too_long = refl; fraction = refl; no_part = refl; no_digit = refl; no_unit = refl }
