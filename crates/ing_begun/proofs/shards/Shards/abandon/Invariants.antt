use Rattle.std.proofs.Common.{vec_len}
use Rattle.ing_begun.proofs.shards.Shards.abandon.Given as goal

abbrev pub decreases-loop-begun : goal.decreases-loop-begun
decreases-loop-begun g l = vec_len l.last_first
