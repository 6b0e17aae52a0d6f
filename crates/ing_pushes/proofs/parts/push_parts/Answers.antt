use Rattle.ing_pushes.proofs.parts.push_parts.Goals as goal
use Rattle.ing_pushes.proofs.parts.push_parts.Goals.{in-cmd+in_ok-text_in-in-cmd, in-tenant+in_ok-text_in-in-tenant, in-now+in_ok-text_in-in-now, in-streams+in_ok-items_in-in-streams}
use Rattle.ing_pushes.proofs.Members.{met_all, met_cmd, met_now, met_streams, met_tenant}

pub loop-member-preserved : goal.loop-member-preserved
loop-member-preserved c = elim c.match-member.branch [
  | in-cmd+in_ok-text_in-in-cmd w ↦ met_cmd c.loop-member-test.true c.member-item.is c.loop-member.invariant w.in_ok-text_in-in-cmd.field-0 w.in-cmd.is w.if-is_none.ensures w.in_ok-text_in-in-cmd.ensures w.cmd-is w.now-is w.streams-is w.tenant-is
  | in-tenant+in_ok-text_in-in-tenant w ↦ met_tenant c.loop-member-test.true c.member-item.is c.loop-member.invariant w.in_ok-text_in-in-tenant.field-0 w.in-tenant.is w.if-is_none-2.ensures w.in_ok-text_in-in-tenant.ensures w.cmd-is w.now-is w.streams-is w.tenant-is
  | in-now+in_ok-text_in-in-now w ↦ met_now c.loop-member-test.true c.member-item.is c.loop-member.invariant w.in_ok-text_in-in-now.field-0 w.in-now.is w.if-is_none-3.ensures w.in_ok-text_in-in-now.ensures w.cmd-is w.now-is w.streams-is w.tenant-is
  | in-streams+in_ok-items_in-in-streams w ↦ met_streams c.loop-member-test.true c.member-item.is c.loop-member.invariant w.in_ok-items_in-in-streams.field-0 w.in-streams.is w.if-is_none-4.ensures w.in_ok-items_in-in-streams.ensures w.cmd-is w.now-is w.streams-is w.tenant-is
]

pub returns-in-Some-Some-Some-Some : goal.returns-in-Some-Some-Some-Some
returns-in-Some-Some-Some-Some c = met_all c.args.members.now c.loop-member.member-index _ _ _ _ c.loop-member-test.false c.loop-member.invariant c.in-Some-Some-Some-Some.is-0 c.in-Some-Some-Some-Some.is-2 c.in-Some-Some-Some-Some.is-3 c.in-Some-Some-Some-Some.is-1
