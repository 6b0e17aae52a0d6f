use Rattle.std.proofs.Common.{◌≡◌, ◌++◌}
use Rattle.std.specs.String.{string_bytes}
use Rattle.std.specs.Str.Iter.{chars_rest}
use Rattle.ing_labels.specs.Canonical.{written_value}
use Rattle.ing_labels.proofs.canonical.push_value.Given as goal

abbrev pub invariant-loop-c : goal.invariant-loop-c
invariant-loop-c l = string_bytes l.text ++ written_value (chars_rest l.c-iterator) ≡ string_bytes l.fn.text ++ written_value l.value
