use Rattle.std.proofs.Common.{◌≡◌, take, reverse}
use Rattle.ing_rows.specs.Rows.{rows_of_chunk, stream}
use Rattle.ing_rows.specs.Steps.{blocks_of}
use Rattle.ing_plain.proofs.plain.chunk.blocks_of.Given as goal

-- the closed blocks of the rows so far
abbrev pub invariant-loop-row : goal.invariant-loop-row
invariant-loop-row l = l.blocks ≡ blocks_of (rows_of_chunk (stream l.tenant l.name) l.chunk (reverse (take l.row-index l.rows)))
