use Rattle.std.proofs.Common.{◌≡◌, ◌∙◌, Some, ap, subst, sym}
use Rattle.std.proofs.lemmas.List.Elements.{All-pop, All-push}
use Rattle.ing_node.specs.Names.{IsTallyOf}
use Rattle.test_rounds.proofs.meeting.let_go.Goals as goal

-- one tally more, of one flusher fewer
pub loop-worker-preserved : goal.loop-worker-preserved
loop-worker-preserved g c =
    let IsOwn = IsTallyOf g.N.NodeName.settings.shards g.N.NodeName.books in
    let worker = c.in-Some.worker in
    let popped = All-pop (λ worker. IsOwn worker.flusher.tally) c.loop-worker.workers.items c.pop.new.self.items (Some worker) c.in-Some.ensures.items c.loop-worker.invariant.given in
    let tally : c.into_parts-tally.result.2 ≡ worker.flusher.tally = ap (λ t. t.2) c.into_parts-tally.ensures ∙ ap (λ p. p.0.tally) c.into_parts-flusher.ensures in
    record {
      given = popped.0;
      own =
          rw (c.push_reserved.ensures.items, c.reserve.ensures.items)
          (All-push IsOwn c.loop-worker.tallies.items c.into_parts-tally.result.2 c.loop-worker.invariant.own (subst IsOwn (sym tally) popped.1));
    }
