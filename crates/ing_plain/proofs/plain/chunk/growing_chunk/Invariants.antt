use Rattle.std.proofs.Common.{◌≡◌, find, take, reverse}
use Rattle.std.specs.Option.{option_map}
use Rattle.ing_rows.specs.Steps.{is_growing}
use Rattle.ing_rows.specs.Rows.{stream}
use Rattle.ing_plain.proofs.plain.chunk.growing_chunk.Given as goal

-- the growing chunk of the marks so far
abbrev pub invariant-loop-mark : goal.invariant-loop-mark
invariant-loop-mark l = l.chunk ≡ option_map (λ m. m.chunk) (find (is_growing (stream l.tenant l.name)) (reverse (take l.mark-index l.marks)))
