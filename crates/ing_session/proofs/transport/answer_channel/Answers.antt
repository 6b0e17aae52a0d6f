use Rattle.std.proofs.Common.{inl, refl, Some, []}
use Rattle.ing_session.specs.Runs.{IsLeft}
use Rattle.ing_session.proofs.RunsLaws.{channel_unread}
use Rattle.ing_session.proofs.StepsLaws.{answered_all, begins, is_cut_off, stops_off}
use Rattle.ing_session.proofs.transport.answer_channel.Goals as goal

-- there was no room to read anything
pub returns-in_err-lines-clause-broken : goal.returns-in_err-lines-clause-broken
returns-in_err-lines-clause-broken g c = λ e is other.
    let service = c.args.service.now in
    channel_unread g.C.Service.manner (g.C.Service.settings_of service) (Some []) (IsLeft g.C.Service.holds g.C.Service.leaves service) (g.C.Service.failures c.args.end.now) (g.W.Write.contents c.args.writer.now) c.args.replies.now.items
    c.requires.none (inl c.requires.nothing) (g.R.Read.remaining c.args.reader.now)

pub returns-clause-output : goal.returns-clause-output
returns-clause-output g c =
    let lines = c.in_ok-lines.ensures in
    answered_all c.answer_lines.result c.answer_lines.ensures.step
    (begins (g.R.Read.remaining c.args.reader.now) c.requires.none lines.open lines.nothing_read refl c.requires.nothing refl)

pub returns-clause-broken : goal.returns-clause-broken
returns-clause-broken g c =
    let lines = c.in_ok-lines.ensures in
    stops_off c.answer_lines.ensures.step
    (begins (g.R.Read.remaining c.args.reader.now) c.requires.none lines.open lines.nothing_read refl c.requires.nothing refl)

pub returns-clause-cut : goal.returns-clause-cut
returns-clause-cut g c =
    let lines = c.in_ok-lines.ensures in
    is_cut_off c.answer_lines.ensures.step
    (begins (g.R.Read.remaining c.args.reader.now) c.requires.none lines.open lines.nothing_read refl c.requires.nothing refl)
