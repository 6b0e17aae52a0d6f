use Rattle.std.proofs.Common.{Err, subst, sym}
use Rattle.ing_lanes.specs.Served.{IsServed, account_of}
use Rattle.ing_lanes.proofs.ServedLaws.{served_of, unopened}
use Rattle.ing_lanes.proofs.channel.Channel.answer.Goals as goal

-- its lines are answered, or some of them
pub returns-in-Ok : goal.returns-in-Ok
returns-in-Ok g c =
    let rd = g.I.Read.remaining in
    let wr = g.O.Write.contents in
    let failures = g.S.StoreEnd.failure_count in
    let honest = g.S.StoreEnd.is_honest in
    let logs = g.N.NodeName.has_logs in
    let settings = g.N.NodeName.settings in
    let line = c.args.self.now.line in
    let left = c.serve_channel.new in
    let account = account_of left.service.pusher left.service.workers.items in
    subst (λ known. IsServed honest logs settings known (failures line.end) (failures left.end) (wr line.writer) (wr left.writer) account c.serve_channel.result) c.open.ensures.reader
    (subst (λ old. IsServed honest logs settings (rd c.open.new.reader) (failures line.end) (failures left.end) old (wr left.writer) account c.serve_channel.result) c.open.ensures.writer
    (served_of honest logs settings (failures line.end) (failures left.end) (wr c.open.new.writer) (wr left.writer) left.service.pusher left.service.workers.items left.service.board (rd c.open.new.reader) c.serve_channel.result
    c.serve_channel.ensures.output c.serve_channel.ensures.broken))

-- it is not opened
pub returns-in-Err : goal.returns-in-Err
returns-in-Err g c =
    let wr = g.O.Write.contents in
    let lane = c.args.self.now.lane in
    let line = c.args.self.now.line in
    let n = g.S.StoreEnd.failure_count line.end in
    subst (λ new. IsServed g.S.StoreEnd.is_honest g.N.NodeName.has_logs g.N.NodeName.settings (g.I.Read.remaining line.reader) n n (wr line.writer) new (account_of lane.pusher lane.workers.items) (Err c.in-Err.ending)) (sym c.open.ensures.writer)
    (unopened g.S.StoreEnd.is_honest g.N.NodeName.has_logs g.N.NodeName.settings n (wr line.writer) lane.pusher lane.workers.items lane.board c.in-Err.ending c.requires (g.I.Read.remaining line.reader))
