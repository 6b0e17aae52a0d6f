use Rattle.std.proofs.Common.{map, take}
use Rattle.json.specs.Value.{value_view}
use Rattle.ing_pushes.specs.Usual.{Each, IsEntry}
use Rattle.ing_pushes.proofs.usual.entries_in.Given as goal

abbrev pub invariant-loop-value : goal.invariant-loop-value
invariant-loop-value l = Each IsEntry (map value_view (take l.value-index l.values)) l.entries.items
