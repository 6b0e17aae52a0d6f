use Rattle.std.proofs.Common.{◌≡◌, map}
use Rattle.ctl_export.specs.Orders.{number_in, numbers_below}
use Rattle.ctl_export.proofs.order.streams_in_order.Given as goal

-- those so far have the numbers so far
abbrev pub invariant-loop-number : goal.invariant-loop-number
invariant-loop-number g l = map number_in l.places.items ≡ numbers_below l.number
