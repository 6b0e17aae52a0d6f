use Rattle.std.proofs.Common.{◌≡◌, arith, length, length-append, ap, [], ◌∷◌}
use Rattle.json.specs.Print.{escape}
use Rattle.ctl_feed.proofs.SizeLaws.{length-escape-ge}
use Rattle.ctl_feed.proofs.size.size_in_bounds.Goals as goal

pub returns-then-line-gt-MAX_BYTES : goal.returns-then-line-gt-MAX_BYTES
returns-then-line-gt-MAX_BYTES c =
    let line = c.args.entry.now.line in
    let same : length c.as_str-line.result.now ≡ length line = ap length c.as_str-line.ensures in
    λ h. omega (arith, h, same, c.if-line-gt-MAX_BYTES.true, length-escape-ge line, length-append (escape line) (34 ∷ []))
