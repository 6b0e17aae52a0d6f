use Rattle.std.proofs.Common.{◌-◌, drop, length, map}
use Rattle.ing_commands.specs.Views.{label_view}
use Rattle.ing_pushes.specs.Usual.{Under}
use Rattle.ing_pushes.proofs.labels.place_of.Given as goal

abbrev pub invariant-loop-above : goal.invariant-loop-above
invariant-loop-above l = Under l.name (drop (length l.labels - l.above) (map label_view l.labels))
