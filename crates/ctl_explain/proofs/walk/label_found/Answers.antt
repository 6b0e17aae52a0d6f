use Rattle.std.proofs.Common.{rules}
use Rattle.serde_json.specs.View.{view}
use Rattle.ctl_explain.proofs.WalkLaws.{label_found_is}
use Rattle.ctl_explain.proofs.walk.label_found.Goals as goal

pub returns-in-Ok : goal.returns-in-Ok
returns-in-Ok c = rw (label_found_is c.args.fault (view c.args.stream.now) c.in-Ok.map.now.entries c.in-Ok.ensures) (search rules)
