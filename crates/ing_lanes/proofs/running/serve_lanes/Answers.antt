use Rattle.std.proofs.Common.{◌≡◌, ◌∙◌, ◌++◌, List, ap, drop, length, map, take}
use Rattle.std.proofs.lemmas.Slice.Zip.{AllZip-long}
use Rattle.ing_lanes.specs.Counted.{counted_by}
use Rattle.ing_lanes.specs.Served.{Account, IsServed, account_of}
use Rattle.ing_lanes.specs.declared.channel.Channel.{Channel}
use Rattle.ing_lanes.specs.declared.line.Line.{Line}
use Rattle.ing_lanes.proofs.CountLaws.{written_back}
use Rattle.ing_lanes.proofs.ServedLaws.{served_together}
use Rattle.ing_lanes.proofs.running.serve_lanes.Goals as goal

-- what each channel came to, and what all of them did together
pub returns-in-Ok-channels_of-clause-served : goal.returns-in-Ok-channels_of-clause-served
returns-in-Ok-channels_of-clause-served g c =
    let C = Channel g.row.N.Denot g.row.I.Denot g.row.O.Denot g.row.D.Denot g.row.R.Denot g.row.F.Denot g.row.S.Denot g.row.W.Denot g.N.NodeName g.D.LogDisk g.R.Receipt g.F.StoreEnd in
    let L = Line g.row.I.Denot g.row.O.Denot g.row.S.Denot g.row.R.Denot in
    let rd = g.I.Read.remaining in
    let wr = g.O.Write.contents in
    let failures = g.S.StoreEnd.failure_count in
    let P = λ (old new : L) (account : Account). IsServed g.S.StoreEnd.is_honest g.N.NodeName.has_logs g.N.NodeName.settings (rd old.reader) (failures old.end) (failures new.end) (wr old.writer) (wr new.writer) account new.ended in
    let Q = λ (old new : C). P old.line new.line (account_of new.lane.pusher new.lane.workers.items) in
    let channels = c.in-Ok-channels_of.channels in
    let news = c.serve_all.new.channels in
    let before = c.as_mut_slice.result.now in
    let same : before ≡ channels.items = c.as_mut_slice.ensures.value in
    let long : length news ≡ length channels.items = AllZip-long Q before news c.serve_all.ensures ∙ ap length same in
    let left : take channels.len (news ++ drop (length news) channels.items) ≡ news = ap (λ n. take n (news ++ drop (length news) channels.items)) channels.ok.0 ∙ written_back news channels.items long in
    let parted = c.part_all.ensures in
    served_together (λ (ch : C). ch.line) (λ (ch : C). ch.lane.pusher) (λ (ch : C). counted_by ch.lane.workers.items) P before news (take channels.len (news ++ drop (length news) channels.items)) c.args.lines.items
    c.part_all.result.lines.items c.part_all.result.pushers.items c.part_all.result.tallies.items c.serve_all.ensures (ap (λ (cs : List C). map (λ (ch : C). ch.line) cs) same ∙ c.in-Ok-channels_of.ensures.lines) left parted.lines parted.told parted.counted
