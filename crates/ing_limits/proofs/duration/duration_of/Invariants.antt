use Rattle.std.proofs.Common.{◌≡◌, ◌-◌, length}
use Rattle.ing_limits.specs.Durations.{duration_of, parts_sum}
use Rattle.ing_limits.proofs.Sums.{ends_with}
use Rattle.ing_limits.proofs.duration.duration_of.Given as goal

abbrev pub invariant-loop-turn : goal.invariant-loop-turn
invariant-loop-turn l = ends_with l.total (parts_sum (length l.text - l.turn) l.rest) ≡ duration_of l.text
