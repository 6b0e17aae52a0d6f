use Rattle.std.proofs.Common.{subst, sym}
use Rattle.ing_node.specs.Names.{IsTallyOf}
use Rattle.test_nodes.proofs.hand.Hand.into_parts.Goals as goal

pub returns : goal.returns
returns g c = subst (IsTallyOf g.N.NodeName.settings.shards g.N.NodeName.books) (sym c.into_tally.ensures) (c.args.self.full, c.args.self.own)
