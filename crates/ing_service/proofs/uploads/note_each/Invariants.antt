use Rattle.std.proofs.Common.{◌≡◌, ◌+◌, ◌<◌, ◌≤◌, All, List, length, sum_by}
use Rattle.ing_durable.specs.Flights.{Flown}
use Rattle.ing_service.specs.Ends.{AreNotedOf, IsNoteOf, failed_by, failed_in}
use Rattle.ing_service.proofs.uploads.note_each.Given as goal

abbrev pub invariant-loop-note : goal.invariant-loop-note
invariant-loop-note g l =
    let bytes = g.R.Receipt.bytes in
    let name = g.R.Receipt.name in
    record {
      of : (chunks : List Flown) → All (λ n. IsNoteOf bytes name chunks n.place n.outcome) l.fn.worker.noted.items → AreNotedOf bytes name chunks l.fn.noted
          → All (λ n. IsNoteOf bytes name chunks n.place n.outcome) l.worker.noted.items × AreNotedOf bytes name chunks l.noted;
      places : All (λ n. n.place < length l.fn.noted) l.worker.noted.items;
      end : l.worker.end ≡ l.fn.worker.end;
      len : length l.noted ≡ length l.fn.noted;
      failed : failed_in l.noted + sum_by (λ n. failed_by n.outcome) l.worker.noted.items ≤ failed_in l.fn.noted + sum_by (λ n. failed_by n.outcome) l.fn.worker.noted.items;
    }

abbrev pub decreases-loop-note : goal.decreases-loop-note
decreases-loop-note g l = length l.worker.noted.items
