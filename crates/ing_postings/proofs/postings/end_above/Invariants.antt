use Rattle.std.proofs.Common.{◌≤◌, ◌-◌, length}
use Rattle.ing_postings.proofs.postings.end_above.Given as goal

abbrev pub invariant-loop-end : goal.invariant-loop-end
invariant-loop-end l = 1 ≤ l.end

abbrev pub decreases-loop-end : goal.decreases-loop-end
decreases-loop-end l = length l.list - l.end
