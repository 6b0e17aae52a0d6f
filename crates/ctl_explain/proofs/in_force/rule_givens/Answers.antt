use Rattle.std.proofs.Common.{refl}
use Rattle.ctl_explain.proofs.in_force.rule_givens.Goals as goal

pub returns : goal.returns
returns c = rw (c.number.ensures, c.number-2.ensures, c.number-3.ensures, c.number-4.ensures, c.number-5.ensures, c.number-6.ensures, c.number-7.ensures, c.number-8.ensures) refl
