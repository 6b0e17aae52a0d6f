use Rattle.std.proofs.Common.{take}
use Rattle.std.specs.Prelude.{All}
use Rattle.ing_node.specs.Diaries.{KeepsDiary}
use Rattle.ing_node.proofs.settling.keep_diaries.Given as goal

-- those so far do
abbrev pub invariant-loop-pusher : goal.invariant-loop-pusher
invariant-loop-pusher g l = All KeepsDiary (take l.pusher-index l.pushers)
