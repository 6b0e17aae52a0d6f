use Rattle.std.proofs.Common.{◌≡◌, ℕ, List, Some}
use Rattle.ctl_feed.specs.Wraps.{WrapsFront}
use Rattle.ctl_feed.proofs.bodies.wrap_input.Given as goal

-- the bodies before those that are left were written as pushes
abbrev pub invariant-loop-number : goal.invariant-loop-number
invariant-loop-number g l =
    (input : List ℕ) → g.R.Read.remaining l.initial.reader ≡ Some input
    → WrapsFront l.tenant l.now input (g.R.Read.remaining l.reader) (g.W.Write.contents l.initial.writer) (g.W.Write.contents l.writer) l.number
