use Rattle.std.proofs.Common.{◌≡◌, ◌++◌, length, map}
use Rattle.std.specs.Vec.Iter.{into_iter_items, into_iter_len}
use Rattle.ctl_export.specs.Orders.{number_in}
use Rattle.ctl_export.proofs.order.numbers_in_order.Given as goal

-- the numbers so far are those of what was taken
abbrev pub invariant-loop-place : goal.invariant-loop-place
invariant-loop-place l = record {
  all : l.yielded ++ into_iter_items l.place-iterator ≡ into_iter_items l.initial.place-iterator;
  whole : into_iter_len l.place-iterator ≡ length (into_iter_items l.place-iterator);
  numbers : l.order.items ≡ map number_in l.yielded;
}
