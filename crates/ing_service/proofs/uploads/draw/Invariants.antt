use Rattle.std.proofs.Common.{All, map, sum_by}
use Rattle.ing_session.specs.Causes.{GoesOn, HaveCause}
use Rattle.ing_service.specs.Ends.{IsNoteOf, failed_by}
use Rattle.ing_service.proofs.uploads.draw.Given as goal

-- what is noted so far is of the chunks at its places
abbrev pub invariant-loop : goal.invariant-loop
invariant-loop g l =
    let failures = g.S.StoreEnd.failure_count in
    record {
      noted : All (λ n. IsNoteOf g.R.Receipt.bytes g.R.Receipt.name (map (λ b. b.now) l.chunks) n.place n.outcome) l.worker.noted.items;
      causes : HaveCause (failures l.fn.worker.end) (failures l.worker.end) (sum_by (λ n. failed_by n.outcome) l.worker.noted.items);
      end : GoesOn g.S.StoreEnd.never_fails failures l.fn.worker.end l.worker.end;
    }
