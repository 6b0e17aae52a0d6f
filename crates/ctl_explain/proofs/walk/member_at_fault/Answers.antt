use Rattle.std.proofs.Common.{sym}
use Rattle.serde_json.specs.View.{view}
use Rattle.ctl_explain.proofs.Complete.{none_at_fault}
use Rattle.ctl_explain.proofs.Sound.{first_member_sound}
use Rattle.ctl_explain.proofs.walk.member_at_fault.Goals as goal

pub unreachable-requires : goal.unreachable-requires
unreachable-requires c = none_at_fault c.args.fault (view c.args.value.now) c.requires (sym c.in-None.ensures)

pub returns : goal.returns
returns c = first_member_sound c.args.fault (view c.args.value.now) c.in-Some.member (sym c.in-Some.ensures)
