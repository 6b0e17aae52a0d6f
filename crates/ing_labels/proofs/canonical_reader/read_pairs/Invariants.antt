use Rattle.std.specs.Str.Iter.{chars_rest}
use Rattle.ing_labels.specs.CanonicalReading.{reading_of}
use Rattle.ing_labels.proofs.CanonicalEnds.{ReadTo}
use Rattle.ing_labels.proofs.canonical_reader.read_pairs.Given as goal

abbrev pub invariant-loop-c : goal.invariant-loop-c
invariant-loop-c l = ReadTo l.text (chars_rest l.c-iterator) l.at (reading_of l.state)
