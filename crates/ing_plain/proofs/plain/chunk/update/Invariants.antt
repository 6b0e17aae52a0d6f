use Rattle.std.proofs.Common.{◌≡◌, ◌++◌, cond, map, take, drop}
use Rattle.ing_rows.specs.Steps.{is_growing}
use Rattle.ing_rows.specs.Rows.{stream}
use Rattle.ing_plain.proofs.plain.chunk.update.Given as goal

-- the marks so far are updated, and the others as they were
abbrev pub invariant-loop-mark : goal.invariant-loop-mark
invariant-loop-mark l = l.marks ≡ map (λ m. cond (is_growing (stream l.tenant l.name) m) (record m { last_update = l.now }) m) (take l.mark-index l.fn.marks) ++ drop l.mark-index l.fn.marks
