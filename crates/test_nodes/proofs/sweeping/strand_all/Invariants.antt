use Rattle.std.proofs.Common.{vec_len}
use Rattle.test_nodes.proofs.sweeping.strand_all.Given as goal

abbrev pub decreases-loop-worker : goal.decreases-loop-worker
decreases-loop-worker l = vec_len l.workers
