use Rattle.std.proofs.Common.{sym, subst, []}
use Rattle.ctl_feed.specs.Feeds.{Feeds}
use Rattle.ctl_feed.specs.Inputs.{Loads}
use Rattle.ctl_feed.proofs.FeedLaws.{feeds_none, feeds_rest}
use Rattle.ctl_feed.proofs.InputLaws.{loads_none, loads_rest, on_ok_of}
use Rattle.ctl_feed.proofs.inputs.load_rest.Goals as goal

pub returns-in-Some-clause-written : goal.returns-in-Some-clause-written
returns-in-Some-clause-written g c =
    let finished = rw c.in-Some.is at c.in_ok-command.ensures in
    λ read. on_ok_of c.put.result _ _ (λ put. loads_rest read c.args.loader.now c.finish.new.self c.in-Some.command.items (g.W.Write.contents c.args.writer.now) (g.W.Write.contents c.put.new.writer) finished put) c.put.ensures

pub returns-in-None-clause-written : goal.returns-in-None-clause-written
returns-in-None-clause-written g c =
    let finished = rw c.in-None.is at c.in_ok-command.ensures in
    let contents = g.W.Write.contents c.args.writer.now in
    λ read. subst (λ load. Loads read c.args.loader.now load [] contents contents) (sym finished.1) (loads_none read c.args.loader.now contents)

pub returns-in-Some-clause-fed : goal.returns-in-Some-clause-fed
returns-in-Some-clause-fed g c =
    let finished = rw c.in-Some.is at c.in_ok-command.ensures in
    λ most few. on_ok_of c.put.result _ _ (λ put. feeds_rest most c.args.loader.now c.finish.new.self c.in-Some.command.items (g.W.Write.contents c.args.writer.now) (g.W.Write.contents c.put.new.writer) few finished put) c.put.ensures

pub returns-in-None-clause-fed : goal.returns-in-None-clause-fed
returns-in-None-clause-fed g c =
    let finished = rw c.in-None.is at c.in_ok-command.ensures in
    let contents = g.W.Write.contents c.args.writer.now in
    λ most few. subst (λ load. Feeds most c.args.loader.now load [] contents contents) (sym finished.1) (feeds_none most c.args.loader.now contents)
