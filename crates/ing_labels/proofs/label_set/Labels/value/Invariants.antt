use Rattle.std.proofs.Common.{◌≡◌}
use Rattle.std.specs.FinMap.{find, entries}
use Rattle.ing_labels.specs.Labels.{name_order}
use Rattle.ing_labels.proofs.label_set.Labels.value.Given as goal

abbrev pub invariant-loop-label : goal.invariant-loop-label
invariant-loop-label l =
    (goal.iterator-loop-label).can_next l.label-iterator
    × (goal.iterator-loop-label).is_finite l.label-iterator
    × (find name_order l.name l.label-iterator ≡ find name_order l.name (entries l.self))
