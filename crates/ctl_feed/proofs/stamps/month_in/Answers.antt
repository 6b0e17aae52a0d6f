use Rattle.ctl_feed.proofs.TimeLaws.{month_is, no_month}
use Rattle.ctl_feed.proofs.stamps.month_in.Goals as goal

pub returns-in_default : goal.returns-in_default
returns-in_default c = no_month c.args.name.now c.in_default.ensures.cases.0

pub returns : goal.returns
returns c = month_is c.args.name.now c.in-Ok.name.now _ c.in-Ok.ensures.cases.0 c.in-Ok.ensures.cases.1 c.month_named.ensures
