use Rattle.std.proofs.Common.{Some, subst, sym}
use Rattle.std.proofs.lemmas.List.Elements.{All-pop}
use Rattle.ing_node.specs.Names.{IsTallyOf}
use Rattle.ing_lanes.proofs.lane.Lane.into_parts.Goals as goal

-- the only flusher counts what is stored of this ingester
pub returns-clause-own : goal.returns-clause-own
returns-clause-own g c =
    let IsOwn = IsTallyOf g.N.NodeName.settings.shards g.N.NodeName.books in
    let popped = All-pop (λ worker. IsOwn worker.flusher.tally) c.args.self.workers.items c.pop.new.self.items (Some c.in-Some.worker) c.in-Some.ensures.items c.args.self.own in
    subst IsOwn (sym c.into_tally.ensures) popped.1
