use Rattle.std.proofs.Common.{vec_len}
use Rattle.std.specs.Prelude.{All}
use Rattle.ing_node.specs.Names.{IsTallyOf}
use Rattle.test_rounds.proofs.meeting.parts_of.Given as goal

abbrev pub invariant-loop-actor : goal.invariant-loop-actor
invariant-loop-actor g l = All (IsTallyOf g.N.NodeName.settings.shards g.N.NodeName.books) l.tallies.items

abbrev pub decreases-loop-actor : goal.decreases-loop-actor
decreases-loop-actor g l = vec_len l.actors
