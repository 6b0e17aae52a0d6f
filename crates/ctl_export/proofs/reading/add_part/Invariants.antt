use Rattle.std.proofs.Common.{◌≡◌, ◌++◌, length, map}
use Rattle.std.specs.Vec.Iter.{into_iter_items, into_iter_len}
use Rattle.ctl_export.specs.Reads.{numbered_of}
use Rattle.ctl_export.proofs.reading.add_part.Given as goal

-- those that are left do the rest
abbrev pub invariant-loop-found : goal.invariant-loop-found
invariant-loop-found g l = record {
  rest : l.entries.items ++ map numbered_of (into_iter_items l.found-iterator) ≡ l.initial.entries.items ++ map numbered_of (into_iter_items l.initial.found-iterator);
  left : into_iter_len l.found-iterator ≡ length (into_iter_items l.found-iterator);
}
