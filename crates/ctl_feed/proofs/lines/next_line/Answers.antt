use Rattle.ctl_feed.proofs.LineLaws.{at_end, ended}
use Rattle.ctl_feed.proofs.lines.next_line.Goals as goal

pub returns-in-Ended-clause-line : goal.returns-in-Ended-clause-line
returns-in-Ended-clause-line g c =
    let part = rw c.in-Ended.is at c.in_ok-long.ensures.part in
    rw c.found.ensures
    (ended c.args.most (g.R.Read.remaining c.args.reader.now) (g.R.Read.remaining c.loop.reader) (g.R.Read.remaining c.take_part.new.reader) c.loop.line.items c.take_part.new.line.items c.loop.too_long c.in-Ended.long c.loop.invariant.so_far part)

pub returns-in-AtEnd-clause-line : goal.returns-in-AtEnd-clause-line
returns-in-AtEnd-clause-line g c =
    let part = rw c.in-AtEnd.is at c.in_ok-long.ensures.part in
    rw (c.at_end.ensures, c.deref.ensures.value)
    (at_end c.args.most (g.R.Read.remaining c.args.reader.now) (g.R.Read.remaining c.loop.reader) (g.R.Read.remaining c.take_part.new.reader) c.loop.line.items c.take_part.new.line.items c.loop.too_long c.loop.invariant.so_far part)
