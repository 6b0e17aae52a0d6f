use Rattle.std.proofs.Common.{vec_len}
use Rattle.test_nodes.proofs.life.strand_all.Given as goal

abbrev pub decreases-loop-hand : goal.decreases-loop-hand
decreases-loop-hand g l = vec_len l.hands
