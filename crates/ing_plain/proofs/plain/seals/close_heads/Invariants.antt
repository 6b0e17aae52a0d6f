use Rattle.std.proofs.Common.{◌≡◌, ◌++◌, ◌&&◌, take, drop, reverse}
use Rattle.ing_rows.specs.declared.place.Place.TheVariants.{Block}
use Rattle.ing_rows.specs.Rows.{is_head}
use Rattle.ing_rows.specs.Steps as steps
use Rattle.ing_rows.specs.Steps.{moved}
use Rattle.ing_plain.specs.Plain.{reason_for}
use Rattle.ing_plain.proofs.plain.seals.close_heads.Given as goal

-- the rows so far are closed where their chunks are sealed, and the others as they were
abbrev pub invariant-loop-i : goal.invariant-loop-i
invariant-loop-i l = l.rows ≡ moved (λ r. is_head r.place && steps.is_sealed_now (reason_for l.cause (reverse l.fn.rows)) (reverse l.marks) r) Block (take l.i l.fn.rows) ++ drop l.i l.fn.rows
