use Rattle.std.proofs.Common.{◌≡◌, ◌-◌, take, reverse}
use Rattle.ing_rows.specs.Rows.{rows_of_chunk, size_of_rows, stream}
use Rattle.ing_plain.proofs.plain.chunk.chunk_has.Given as goal

-- what is left of the size after the rows so far
abbrev pub invariant-loop-row : goal.invariant-loop-row
invariant-loop-row l = l.left ≡ l.size - size_of_rows (rows_of_chunk (stream l.tenant l.name) l.chunk (reverse (take l.row-index l.rows)))
