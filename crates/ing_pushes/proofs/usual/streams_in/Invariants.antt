use Rattle.std.proofs.Common.{map, take}
use Rattle.json.specs.Value.{value_view}
use Rattle.ing_commands.specs.Views.{stream_view}
use Rattle.ing_pushes.specs.Usual.{Each, IsStream}
use Rattle.ing_pushes.proofs.usual.streams_in.Given as goal

abbrev pub invariant-loop-value : goal.invariant-loop-value
invariant-loop-value l = Each IsStream (map value_view (take l.value-index l.values)) (map stream_view l.streams.items)
