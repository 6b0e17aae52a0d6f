use Rattle.std.proofs.Common.{refl}
use Rattle.toml.proofs.OnLiterals.{toml_on_literals}
use Rattle.ing_limits.specs.Durations.{parts_sum}
use Rattle.ing_limits.proofs.laws.worked_refusals.Goals as goal

pub returns : goal.returns
unfolding toml_on_literals parts_sum
returns c = record { empty = refl; above = refl; below = refl; fraction = refl; unknown = refl; tenants = refl; in_tenant = refl; unknown_first = refl }
