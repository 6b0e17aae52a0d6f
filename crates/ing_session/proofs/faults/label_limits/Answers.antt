use Rattle.std.proofs.Common.{refl}
use Rattle.ing_session.proofs.faults.label_limits.Goals as goal

pub returns : goal.returns
returns c = refl
