use Rattle.std.proofs.Common.{◌≡◌, ℕ, List, Some}
use Rattle.ctl_feed.specs.Inputs.{LoadsFront}
use Rattle.ctl_feed.specs.Readings.{read_by}
use Rattle.ctl_feed.proofs.inputs.load_input.Given as goal

-- the lines before those that are left were taken
abbrev pub invariant-loop-number : goal.invariant-loop-number
invariant-loop-number g l =
    (input : List ℕ) → g.R.Read.remaining l.initial.reader ≡ Some input
    → LoadsFront (read_by l.reading) l.initial.loader l.loader input (g.R.Read.remaining l.reader) (g.W.Write.contents l.initial.writer) (g.W.Write.contents l.writer) l.number
