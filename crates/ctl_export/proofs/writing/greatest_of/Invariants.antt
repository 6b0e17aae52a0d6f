use Rattle.std.proofs.Common.{◌≤◌, take}
use Rattle.std.specs.Prelude.{All}
use Rattle.ctl_export.proofs.writing.greatest_of.Given as goal

-- none so far has a greater one
abbrev pub invariant-loop-numbered : goal.invariant-loop-numbered
invariant-loop-numbered l = All (λ e. e.entry.stamp ≤ l.greatest) (take l.numbered-index l.entries)
