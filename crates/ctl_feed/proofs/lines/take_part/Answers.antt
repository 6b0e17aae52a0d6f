use Rattle.std.proofs.Common.{◌+◌, ◌≤◌, length, take, subst, arith}
use Rattle.std.specs.Io.KnownBytes.{Consumes}
use Rattle.std.specs.Io.BufRead.{FillKeeps}
use Rattle.std.proofs.BufReadLemmas.{Consumes_shown}
use Rattle.ctl_feed.proofs.LineLaws.{take-feed}
use Rattle.ctl_feed.proofs.lines.take_part.Goals as goal

pub returns-in_ok-long-in-Some-clause-part : goal.returns-in_ok-long-in-Some-clause-part
returns-in_ok-long-in-Some-clause-part g c =
    let ahead = c.in-Ok.ahead.now in
    let index = c.in-Some.index in
    let found = c.in-Some.ensures in
    let rested = c.fill_buf.follows.lender-at-none in
    let filled = subst (FillKeeps _ (g.R.Read.remaining rested) (g.R.BufRead.consumable_len rested)) c.in-Ok.is c.fill_buf.follows.holds-at-none in
    let within : index + 1 ≤ length ahead = omega (arith, found.0) in
    let moved = Consumes_shown _ _ _ _ ahead (index + 1) within c.in-Ok.ensures.front c.in-Ok.ensures.end filled.0 filled.1 c.consume.ensures.bytes in
    (take index ahead, found.1, subst (Consumes _ _) (take-feed ahead index found.0 found.2) moved.0, c.in_ok-long-in-Some.ensures.holds)
