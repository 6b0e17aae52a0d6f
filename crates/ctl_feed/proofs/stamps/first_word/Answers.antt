use Rattle.std.proofs.Common.{◌≡◌, length, take, sym, ◌∙◌, arith}
use Rattle.std.proofs.Math.Seq.{take-length}
use Rattle.ctl_feed.proofs.TimeLaws.{word_until}
use Rattle.ctl_feed.proofs.stamps.first_word.Goals as goal

pub returns-then-is_blank : goal.returns-then-is_blank
returns-then-is_blank c = word_until c.args.line.now c.loop-end.end (omega arith) c.loop-end.invariant (λ lt. sym c.is_blank.ensures ∙ c.if-is_blank.true)

pub returns : goal.returns
returns c =
    let line = c.args.line.now in
    let whole : take (length line) line ≡ line = take-length line in
    sym whole ∙ word_until line (length line) (omega arith) (λ k lt. c.loop-end.invariant k (omega arith)) (λ lt. absurd (omega arith))
