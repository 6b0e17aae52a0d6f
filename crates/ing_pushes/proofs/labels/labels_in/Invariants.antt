use Rattle.std.proofs.Common.{map}
use Rattle.ing_commands.specs.Views.{label_view}
use Rattle.ing_pushes.proofs.Rising.{ReadAs}
use Rattle.ing_pushes.proofs.labels.labels_in.Given as goal

abbrev pub invariant-loop-member : goal.invariant-loop-member
invariant-loop-member l = ReadAs l.members l.member-index (map label_view l.labels.items)
