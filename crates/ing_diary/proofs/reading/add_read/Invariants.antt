use Rattle.std.proofs.Common.{◌≡◌, ◌++◌, filter, length, map}
use Rattle.std.specs.Vec.Iter.{into_iter_items, into_iter_len}
use Rattle.ing_diary.specs.Fronts.{is_from}
use Rattle.ing_diary.specs.Notes.{numbered_of}
use Rattle.ing_diary.proofs.reading.add_read.Given as goal

-- those that are left do the rest
abbrev pub invariant-loop-found : goal.invariant-loop-found
invariant-loop-found g l = record {
  rest : l.entries.items ++ filter (is_from l.front) (map numbered_of (into_iter_items l.found-iterator)) ≡ l.initial.entries.items ++ filter (is_from l.front) (map numbered_of (into_iter_items l.initial.found-iterator));
  left : into_iter_len l.found-iterator ≡ length (into_iter_items l.found-iterator);
}
