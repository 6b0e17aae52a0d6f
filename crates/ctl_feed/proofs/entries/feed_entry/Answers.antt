use Rattle.std.proofs.Common.{◌≤◌, length, arith, [], ◌∷◌}
use Rattle.ctl_feed.proofs.FeedLaws.{feeds_after, feeds_both}
use Rattle.ctl_feed.proofs.entries.feed_entry.Goals as goal

pub returns-in_ok-put-in-Some-clause-fed : goal.returns-in_ok-put-in-Some-clause-fed
returns-in_ok-put-in-Some-clause-fed g c =
    let most = c.args.most in
    let way = c.make_way.new.loader in
    let new = c.take_entry.new.self in
    let first = g.W.Write.contents c.args.writer.now in
    let then = g.W.Write.contents c.make_way.new.writer in
    let last = g.W.Write.contents c.put.new.writer in
    let few : length way.entries ≤ most = omega (arith, c.in_ok-make_way.ensures.few) in
    feeds_both most c.args.loader.now way new [] (c.args.entry ∷ []) first then last c.in_ok-make_way.ensures.fed
    (feeds_after most way new c.args.entry c.in-Some.command.items then last few (rw c.in-Some.is at c.in_ok-command.ensures.taken) c.in_ok-put-in-Some.ensures)
