use Rattle.ctl_feed.proofs.FeedLaws.{feeds_none}
use Rattle.ctl_feed.proofs.entries.make_way.Goals as goal

pub returns-then-waiting-most-clause-fed : goal.returns-then-waiting-most-clause-fed
returns-then-waiting-most-clause-fed g c = feeds_none c.args.most c.args.loader.now (g.W.Write.contents c.args.writer.now)
