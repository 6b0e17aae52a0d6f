use Rattle.std.proofs.Common.{◌<◌, ◌≡◌, length}
use Rattle.std.specs.Prelude.{IsPermutation}
use Rattle.ing_parts.specs.Answers.{precedes}
use Rattle.ing_parts.specs.Kept.{IsHeapBut, IsLastBelow}
use Rattle.ing_parts.proofs.best.rise.Given as goal

-- all are a heap, but that the one that rises may go behind that above it
abbrev pub invariant-loop-at : goal.invariant-loop-at
invariant-loop-at l = record {
  within : l.at < length l.held;
  count : length l.held ≡ length l.initial.held;
  same : IsPermutation l.initial.held l.held;
  rest : IsHeapBut (precedes l.order) l.at l.held;
  below : IsLastBelow (precedes l.order) l.at l.at l.held;
}

abbrev pub decreases-loop-at : goal.decreases-loop-at
decreases-loop-at l = l.at
