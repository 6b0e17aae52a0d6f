use Rattle.std.proofs.Common.{◌≡◌, take, reverse}
use Rattle.ing_rows.specs.Rows as model
use Rattle.ing_rows.specs.Rows.{stream}
use Rattle.std.specs.Option.{option_map}
use Rattle.ing_plain.proofs.plain.judge.last_of.Given as goal

-- the last entry of the rows so far
abbrev pub invariant-loop-row : goal.invariant-loop-row
invariant-loop-row l = option_map (λ r. r.now) l.last ≡ model.last_of (reverse (take l.row-index l.rows)) (stream l.tenant l.name)
