use Rattle.ctl_explain.proofs.Flawless.{ascending_is_unique}
use Rattle.ctl_explain.proofs.in_force.keys_differ.Goals as goal

pub returns : goal.returns
returns c = ascending_is_unique c.args.table.now.entries c.len.ensures.ordered
