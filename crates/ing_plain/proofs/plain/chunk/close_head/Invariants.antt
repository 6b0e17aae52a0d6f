use Rattle.std.proofs.Common.{◌≡◌, ◌++◌, take, drop}
use Rattle.ing_rows.specs.declared.place.Place.TheVariants.{Block}
use Rattle.ing_rows.specs.Steps.{in_head, moved}
use Rattle.ing_rows.specs.Rows.{stream}
use Rattle.ing_plain.proofs.plain.chunk.close_head.Given as goal

-- the rows so far are closed, and the others as they were
abbrev pub invariant-loop-row : goal.invariant-loop-row
invariant-loop-row l = l.rows ≡ moved (in_head (stream l.tenant l.name) l.chunk) Block (take l.row-index l.fn.rows) ++ drop l.row-index l.fn.rows
