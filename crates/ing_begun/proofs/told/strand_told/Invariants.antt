use Rattle.std.proofs.Common.{vec_len}
use Rattle.ing_begun.proofs.told.strand_told.Given as goal

abbrev pub decreases-loop-told : goal.decreases-loop-told
decreases-loop-told l = vec_len l.all
