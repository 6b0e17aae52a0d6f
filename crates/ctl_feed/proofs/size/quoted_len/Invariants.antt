use Rattle.std.proofs.Common.{◌≡◌, ◌+◌, ◌*◌, ◌≤◌, length, take}
use Rattle.json.specs.Print.{escape}
use Rattle.ctl_feed.proofs.size.quoted_len.Given as goal

-- the bytes so far, and the quotes
abbrev pub invariant-loop-byte : goal.invariant-loop-byte
invariant-loop-byte l = record {
  length : l.len ≡ length (escape (take l.byte-index l.byte-items)) + 2;
  small : l.len ≤ 6 * l.byte-index + 2;
}
