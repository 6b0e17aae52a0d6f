use Rattle.std.proofs.Common.{◌≡◌, ◌++◌, cond, map, take, drop, Some}
use Rattle.ing_rows.specs.Steps.{is_mark_of}
use Rattle.ing_rows.specs.Rows.{stream}
use Rattle.ing_plain.proofs.plain.chunk.seal.Given as goal

-- the marks so far are sealed, and the others as they were
abbrev pub invariant-loop-mark : goal.invariant-loop-mark
invariant-loop-mark l = l.marks ≡ map (λ m. cond (is_mark_of (stream l.tenant l.name) l.chunk m) (record m { reason = Some l.reason }) m) (take l.mark-index l.fn.marks) ++ drop l.mark-index l.fn.marks
