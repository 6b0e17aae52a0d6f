use Rattle.std.proofs.Common.{◌≡◌, ◌+◌, length}
use Rattle.ing_flush.specs.Rounds.{HasTaken, HaveRisen, IsTold}
use Rattle.ing_flush.specs.Tallies.{AreStoredIn}
use Rattle.ing_flush.proofs.worker.flush_queued.Given as goal

abbrev pub invariant-loop : goal.invariant-loop
invariant-loop g l =
    let count = g.S.StoreEnd.failure_count in
    let sure = g.S.StoreEnd.never_fails in
    let old = l.fn.worker in
    let new = l.worker in
    record {
      queue : new.pass.queue ≡ l.queue.name;
      all : length new.flusher.tally ≡ g.D.Door.shards;
      own : AreStoredIn g.D.Door.books new.flusher.tally;
      stored : HaveRisen l.round.stored old.flusher.tally new.flusher.tally;
      taken : HasTaken (l.round.stored + l.round.failed) old.pass new.pass;
      failed : IsTold l.round.failed l.round.other (count old.flusher.end.end) (count new.flusher.end.end);
      sure : sure old.flusher.end.end → (sure new.flusher.end.end) × (count new.flusher.end.end ≡ count old.flusher.end.end);
    }
