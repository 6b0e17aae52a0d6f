use Rattle.std.proofs.Common.{◌≡◌, map, take}
use Rattle.ing_diary.specs.Fronts.{front_in}
use Rattle.ing_node.specs.Earlier.{fronts_in}
use Rattle.ing_node.proofs.fronts.fronts_of.Given as goal

-- those of the shards so far
abbrev pub invariant-loop-begun : goal.invariant-loop-begun
invariant-loop-begun g l = map front_in l.all.items ≡ map fronts_in (take l.begun-index l.shards.last_first.items)
