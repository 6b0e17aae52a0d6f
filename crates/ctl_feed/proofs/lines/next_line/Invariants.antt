use Rattle.std.proofs.Common.{◌≤◌, vec_len}
use Rattle.ctl_feed.proofs.LineLaws.{SoFar}
use Rattle.ctl_feed.proofs.lines.next_line.Given as goal

-- what was read belongs to one line
abbrev pub invariant-loop : goal.invariant-loop
invariant-loop g l = record {
  short : vec_len l.line ≤ l.most;
  so_far : SoFar l.most (g.R.Read.remaining l.initial.reader) (g.R.Read.remaining l.reader) l.line.items l.too_long;
}
