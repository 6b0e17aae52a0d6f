use Rattle.std.proofs.Common.{vec_len}
use Rattle.ing_node.proofs.abandon.strand_tallies.Given as goal

abbrev pub decreases-loop-tally : goal.decreases-loop-tally
decreases-loop-tally l = vec_len l.tallies
