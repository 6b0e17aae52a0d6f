use Rattle.std.proofs.Common.{◌≡◌, ℕ, ◌<◌, false, get_or}
use Rattle.ctl_feed.specs.Times.{is_blank}
use Rattle.ctl_feed.proofs.stamps.first_word.Given as goal

-- no byte so far is blank
abbrev pub invariant-loop-end : goal.invariant-loop-end
invariant-loop-end l = (k : ℕ) → k < l.end → is_blank (get_or l.line k 0) ≡ false
