use Rattle.std.proofs.Common.{◌≡◌, ◌+◌, ◌*◌, ◌≤◌, length, vec_len}
use Rattle.ing_program.proofs.channels.add_lines.Given as goal

-- two paths for each channel that was added so far, and those that are left
abbrev pub invariant-loop-left : goal.invariant-loop-left
invariant-loop-left g l = record {
  all : 2 * vec_len l.lines + length l.left ≡ 2 * vec_len l.fn.lines + length l.fn.paths;
  few : vec_len l.lines ≤ 65537;
}

abbrev pub decreases-loop-left : goal.decreases-loop-left
decreases-loop-left g l = length l.left
