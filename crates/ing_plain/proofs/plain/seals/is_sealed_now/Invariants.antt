use Rattle.std.proofs.Common.{◌≡◌, take, reverse}
use Rattle.ing_rows.specs.Steps as steps
use Rattle.ing_plain.specs.Plain.{reason_for}
use Rattle.ing_plain.proofs.plain.seals.is_sealed_now.Given as goal

-- what the marks so far say
abbrev pub invariant-loop-mark : goal.invariant-loop-mark
invariant-loop-mark l = l.sealed ≡ steps.is_sealed_now (reason_for l.cause (reverse l.rows)) (reverse (take l.mark-index l.marks)) l.row
