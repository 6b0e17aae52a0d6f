use Rattle.std.proofs.Common.{[], subst}
use Rattle.ing_limits.specs.Greatest.{most_bytes}
use Rattle.ing_limits.specs.Ranges.{IsUpTo}
use Rattle.ing_limits.proofs.settings.Settings.sizes.Goals as goal

pub returns-clause-range : goal.returns-clause-range
returns-clause-range c =
    let rules = c.self.invariant.rules [] in
    let sizes = c.self.invariant.sizes [] in
    (subst (IsUpTo most_bytes) sizes.block rules.block_size, subst (IsUpTo most_bytes) sizes.target rules.target_size)
