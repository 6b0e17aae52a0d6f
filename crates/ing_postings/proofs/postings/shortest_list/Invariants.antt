use Rattle.ing_postings.proofs.Chosen.{IsShortest}
use Rattle.ing_postings.proofs.postings.shortest_list.Given as goal

abbrev pub invariant-loop-matcher : goal.invariant-loop-matcher
invariant-loop-matcher l = IsShortest l.index l.matchers l.matcher-index l.shortest
