use Rattle.std.proofs.Common.{◌≡◌, ◌++◌, length, map}
use Rattle.std.specs.Vec.Iter.{into_iter_items, into_iter_len}
use Rattle.ctl_export.specs.Exports.{entry_of}
use Rattle.ctl_export.proofs.writing.without_numbers.Given as goal

-- the entries so far are those of what was taken
abbrev pub invariant-loop-numbered : goal.invariant-loop-numbered
invariant-loop-numbered l = record {
  all : l.yielded ++ into_iter_items l.numbered-iterator ≡ into_iter_items l.initial.numbered-iterator;
  whole : into_iter_len l.numbered-iterator ≡ length (into_iter_items l.numbered-iterator);
  entries : l.bare.items ≡ map entry_of l.yielded;
}
