use Rattle.std.proofs.Common.{◌≡◌, ◌+◌, ◌≤◌, All, List, drop, length, map, sum_by, take}
use Rattle.ing_durable.specs.Flights.{Flown}
use Rattle.ing_service.specs.Ends.{AreNotedOf, IsNoteOf, failed_by, failed_in}
use Rattle.ing_service.proofs.uploads.note_all.Given as goal

-- the notes of the first workers are taken, and those of the others stand
abbrev pub invariant-loop-worker : goal.invariant-loop-worker
invariant-loop-worker g l =
    let bytes = g.R.Receipt.bytes in
    let name = g.R.Receipt.name in
    record {
      of : (chunks : List Flown) → All (λ w. All (λ n. IsNoteOf bytes name chunks n.place n.outcome) w.noted.items) l.fn.workers → AreNotedOf bytes name chunks l.fn.noted → AreNotedOf bytes name chunks l.noted;
      len : length l.noted ≡ length l.fn.noted;
      failed : failed_in l.noted ≤ failed_in l.fn.noted + sum_by (λ w. sum_by (λ n. failed_by n.outcome) w.noted.items) (take l.worker-index l.fn.workers);
      many : length l.workers ≡ length l.fn.workers;
      left : drop l.worker-index l.workers ≡ drop l.worker-index l.fn.workers;
      ends : map (λ w. w.end) l.workers ≡ map (λ w. w.end) l.fn.workers;
    }
