use Rattle.std.proofs.Common.{◌≡◌, ◌≤◌, ◌++◌, map, take, drop, reverse}
use Rattle.ing_rows.specs.Steps.{seal_mark}
use Rattle.ing_rows.specs.Events.{sealed_count}
use Rattle.ing_plain.specs.Plain.{reason_for}
use Rattle.ing_plain.proofs.plain.seals.seal_marks.Given as goal

-- the marks so far are sealed and counted, and the others as they were
abbrev pub invariant-loop-mark : goal.invariant-loop-mark
invariant-loop-mark l = record {
  sealed : l.marks ≡ map (seal_mark (reason_for l.cause (reverse l.rows))) (take l.mark-index l.fn.marks) ++ drop l.mark-index l.fn.marks;
  counted : l.count ≡ sealed_count (reason_for l.cause (reverse l.rows)) (reverse (take l.mark-index l.fn.marks));
  few : l.count ≤ l.mark-index;
}
