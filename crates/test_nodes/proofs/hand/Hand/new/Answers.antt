use Rattle.std.proofs.Common.{◌∙◌, ap, subst, sym}
use Rattle.ing_flush.specs.Tallies.{AreStoredIn}
use Rattle.test_nodes.proofs.hand.Hand.new.Goals as goal

pub invariant_of-result-clause-count : goal.invariant_of-result-clause-count
invariant_of-result-clause-count g c = c.shards.ensures.value ∙ ap (λ settings. settings.shards) c.requires

pub invariant_of-result-clause-own : goal.invariant_of-result-clause-own
invariant_of-result-clause-own g c = subst (AreStoredIn g.N.NodeName.books) (sym c.new-2.ensures.tally) c.in-Ok.ensures.1
