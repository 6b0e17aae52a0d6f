use Rattle.std.proofs.Common.{inl, refl, Some, []}
use Rattle.ing_session.specs.Runs.{IsLeft}
use Rattle.ing_session.proofs.KnownLaws.{on_err_any, on_ok_then}
use Rattle.ing_session.proofs.RunsLaws.{channel_answered, channel_breaks, channel_ends}
use Rattle.ing_session.proofs.transport.serve_channel.Goals as goal

-- a write failed before
pub returns-then-is_output_fault-clause-broken : goal.returns-then-is_output_fault-clause-broken
returns-then-is_output_fault-clause-broken g c = c.answer_channel-ended.ensures.cut (c.is_output_fault.ensures.yes c.if-is_output_fault.true)

-- the last write failed
pub returns-in_err-write_out-clause-broken : goal.returns-in_err-write_out-clause-broken
returns-in_err-write_out-clause-broken g c =
    let contents = g.W.Write.contents in
    let failures = g.C.Service.failures in
    let holds = g.C.Service.holds in
    let said = c.answer_channel-ended in
    on_err_any c.from_residual.result
    (channel_breaks g.C.Service.manner (g.C.Service.settings_of c.args.service.now) (Some []) (holds said.new.service) (IsLeft holds g.C.Service.leaves said.new.service) (failures c.args.end.now) (failures said.new.end)
    (contents c.args.writer.now) (contents said.new.writer) (contents c.write_out.new.writer) said.new.replies.items (g.R.Read.remaining c.args.reader.now) said.result
    (c.is_output_fault.ensures.no c.if-is_output_fault.false) said.ensures.grown said.ensures.broken said.result refl said.ensures.output c.in_err-write_out.ensures.front (λ held is_held. inl is_held))

-- all is written
pub returns-clause-broken : goal.returns-clause-broken
returns-clause-broken g c =
    let contents = g.W.Write.contents in
    let failures = g.C.Service.failures in
    let holds = g.C.Service.holds in
    let said = c.answer_channel-ended in
    channel_ends g.C.Service.manner (g.C.Service.settings_of c.args.service.now) (Some []) (holds said.new.service) (IsLeft holds g.C.Service.leaves said.new.service) (failures c.args.end.now) (failures said.new.end)
    (contents c.args.writer.now) (contents said.new.writer) (contents c.write_out.new.writer) said.new.replies.items (g.R.Read.remaining c.args.reader.now) said.result
    (c.is_output_fault.ensures.no c.if-is_output_fault.false) said.ensures.grown said.ensures.broken said.result refl c.in_ok-write_out.ensures.written

pub returns-clause-output : goal.returns-clause-output
returns-clause-output g c =
    let contents = g.W.Write.contents in
    let failures = g.C.Service.failures in
    let said = c.answer_channel-ended in
    on_ok_then said.result
    (λ lines. channel_answered g.C.Service.manner (g.C.Service.settings_of c.args.service.now) (Some []) (g.C.Service.holds said.new.service) (failures c.args.end.now) (failures said.new.end)
    (contents c.args.writer.now) (contents said.new.writer) (contents c.write_out.new.writer) said.new.replies.items (g.R.Read.remaining c.args.reader.now) lines c.in_ok-write_out.ensures.written)
    said.ensures.output
