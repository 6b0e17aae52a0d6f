use Rattle.ing_pushes.proofs.Members.{MetAs}
use Rattle.ing_pushes.proofs.parts.push_parts.Given as goal

abbrev pub invariant-loop-member : goal.invariant-loop-member
invariant-loop-member l = MetAs l.members l.member-index l.cmd l.now l.streams l.tenant
