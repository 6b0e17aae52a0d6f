use Rattle.std.proofs.Common.{◌<◌, length, sym, subst}
use Rattle.ctl_feed.proofs.LoadLaws.{waiting_said}
use Rattle.ctl_feed.proofs.loader.Loader.take_command.Goals as goal

pub returns-clause-line : goal.returns-clause-line
returns-clause-line c =
    let it = c.self.inside in
    let same = c.replace-entries.ensures.value in
    let says = rw same at c.push_line.ensures.says in
    let stamps = rw same at c.push_line.ensures.stamps in
    let text = rw same at c.push_line.ensures.text in
    let some : 0 < length it.entries.items = subst (λ load. 0 < length load.entries) (sym c.self.view_is) c.requires in
    rw (← c.self.view_is) (waiting_said (λ line. line.items) it.tenant it.now it.labels it.size it.entries.items c.push_line.result some c.self.invariant says stamps text)
