use Rattle.std.proofs.Common.{◌≡◌, take}
use Rattle.std.specs.FinMap.{entries, from_entries}
use Rattle.ing_labels.specs.Labels.{texts, with_values, name_order}
use Rattle.ing_labels.specs.Texts.{entry_texts}
use Rattle.ing_labels.proofs.checks.values_by_name.Given as goal

abbrev pub invariant-loop-name : goal.invariant-loop-name
invariant-loop-name l = entry_texts l.values.entries ≡ entries (from_entries {R = name_order} (with_values (take l.name-index (texts l.pairs))))
