use Rattle.std.proofs.Common.{◌≡◌, take, reverse}
use Rattle.ing_rows.specs.Rows.{rows_of_chunk}
use Rattle.ing_rows.specs.Rows as model
use Rattle.ing_plain.proofs.plain.cause.greatest_stamp.Given as goal

-- the greatest stamp of the rows so far
abbrev pub invariant-loop-row : goal.invariant-loop-row
invariant-loop-row l = l.greatest ≡ model.greatest_stamp (rows_of_chunk l.mark.stream l.mark.chunk (reverse (take l.row-index l.rows)))
