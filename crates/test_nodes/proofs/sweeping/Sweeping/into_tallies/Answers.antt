use Rattle.std.proofs.Common.{rules, Some, subst, sym}
use Rattle.std.proofs.lemmas.List.Elements.{All-pop, All-push}
use Rattle.ing_node.specs.Names.{IsTallyOf}
use Rattle.test_nodes.proofs.sweeping.Sweeping.into_tallies.Goals as goal

-- one tally more, of one flusher fewer
pub loop-worker-preserved : goal.loop-worker-preserved
loop-worker-preserved g c =
    let IsOwn = IsTallyOf g.N.NodeName.settings.shards g.N.NodeName.books in
    let worker = c.in-Some.worker in
    let popped = All-pop (λ worker. IsOwn worker.flusher.tally) c.loop-worker.workers.items c.pop.new.self.items (Some worker) c.in-Some.ensures.items c.loop-worker.invariant.given in
    record {
      given = popped.0;
      own = rw c.push_reserved.ensures.items (All-push IsOwn c.loop-worker.tallies.items c.into_tally.result c.loop-worker.invariant.own (subst IsOwn (sym c.into_tally.ensures) popped.1));
      few = search rules;
      room = search rules;
    }
