use Rattle.std.proofs.Common.{vec_len}
use Rattle.ing_lanes.proofs.opening.strand_all.Given as goal

abbrev pub decreases-loop-channel : goal.decreases-loop-channel
decreases-loop-channel g l = vec_len l.channels
