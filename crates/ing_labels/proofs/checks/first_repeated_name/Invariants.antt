use Rattle.std.proofs.Common.{◌≡◌, ℕ, ◌<◌, take, false}
use Rattle.ing_labels.specs.Labels.{texts}
use Rattle.ing_labels.proofs.Places.{repeats, HasSeen}
use Rattle.ing_labels.proofs.checks.first_repeated_name.Given as goal

abbrev pub invariant-loop-at : goal.invariant-loop-at
invariant-loop-at l =
    HasSeen l.seen (take l.at (texts l.pairs)) × ((k : ℕ) → k < l.at → repeats (texts l.pairs) k ≡ false)
