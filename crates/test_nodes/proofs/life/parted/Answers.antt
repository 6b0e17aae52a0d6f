use Rattle.std.proofs.Common.{rules}
use Rattle.std.proofs.lemmas.List.Elements.{All-push}
use Rattle.ing_node.specs.Names.{IsTallyOf}
use Rattle.test_nodes.proofs.life.parted.Goals as goal

pub loop-hand-preserved : goal.loop-hand-preserved
loop-hand-preserved g c =
    let P = IsTallyOf g.N.NodeName.settings.shards g.N.NodeName.books in
    let tally = c.into_parts-pusher.result.1 in
    let own = All-push P c.loop-hand.tallies.items tally c.loop-hand.invariant.own c.into_parts-pusher.ensures in
    record {
      own = rw c.push_reserved-in-Some.ensures.items own;
      pushers = search rules;
      tallies = search rules;
    }

pub into_tallies-requires-clause-own : goal.into_tallies-requires-clause-own
into_tallies-requires-clause-own g c =
    let P = IsTallyOf g.N.NodeName.settings.shards g.N.NodeName.books in
    let own = All-push P c.loop-hand.tallies.items c.into_parts-pusher.result.1 c.loop-hand.invariant.own c.into_parts-pusher.ensures in
    rw c.push_reserved-in-Some.ensures.items own
