use Rattle.std.proofs.Common.{vec_len}
use Rattle.ing_node.proofs.abandon.strand_pushers.Given as goal

abbrev pub decreases-loop-pusher : goal.decreases-loop-pusher
decreases-loop-pusher g l = vec_len l.pushers
