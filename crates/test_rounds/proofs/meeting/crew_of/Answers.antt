use Rattle.std.proofs.Common.{rules, ◌≡◌, ◌∙◌, ap}
use Rattle.std.proofs.lemmas.List.Elements.{All-push}
use Rattle.ing_node.specs.Names.{IsTallyOf}
use Rattle.test_rounds.proofs.meeting.crew_of.Goals as goal

-- one flusher more
pub loop-rt-preserved : goal.loop-rt-preserved
loop-rt-preserved g c =
    let IsOwn = IsTallyOf g.N.NodeName.settings.shards g.N.NodeName.books in
    let name = c.args.flushing.queue.name in
    let worker = c.in-Ok.worker in
    let before = c.loop-rt.workers.items in
    let made = c.in-Ok.ensures in
    record {
      sweeper = ap (λ p. p.queue) made.sweeper ∙ c.loop-rt.invariant.sweeper;
      queue = rw c.push_reserved.ensures.items (All-push (λ w. w.pass.queue ≡ name) before worker c.loop-rt.invariant.queue (ap (λ p. p.queue) made.pass));
      own = rw c.push_reserved.ensures.items (All-push (λ w. IsOwn w.flusher.tally) before worker c.loop-rt.invariant.own (made.all, made.own));
      few = search rules;
      room = search rules;
    }
