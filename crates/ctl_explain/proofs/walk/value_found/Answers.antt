use Rattle.std.proofs.Common.{rules}
use Rattle.serde_json.specs.View.{view}
use Rattle.ctl_explain.proofs.WalkLaws.{value_found_is}
use Rattle.ctl_explain.proofs.walk.value_found.Goals as goal

pub returns-in-Ok : goal.returns-in-Ok
returns-in-Ok c = rw (value_found_is c.args.fault (view c.args.stream.now) c.in-Ok.list.now c.in-Ok.ensures) (search rules)
