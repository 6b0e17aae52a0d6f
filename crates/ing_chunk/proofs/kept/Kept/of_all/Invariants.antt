use Rattle.std.proofs.Common.{take}
use Rattle.ing_chunk.specs.Kept.{IsKeptOf}
use Rattle.ing_chunk.proofs.kept.Kept.of_all.Given as goal

-- of those so far
abbrev pub invariant-loop-numbered : goal.invariant-loop-numbered
invariant-loop-numbered l = IsKeptOf l.kept (take l.numbered-index l.run)
