use Rattle.std.proofs.Common.{◌≡◌, ◌-◌, drop}
use Rattle.std.specs.FinMap.Entries.{is_sorted}
use Rattle.ing_labels.specs.Labels.{name_order, texts}
use Rattle.ing_labels.proofs.checks.names_rise.Given as goal

abbrev pub invariant-loop-at : goal.invariant-loop-at
invariant-loop-at l = is_sorted name_order (drop (l.at - 1) (texts l.pairs)) ≡ is_sorted name_order (texts l.pairs)
