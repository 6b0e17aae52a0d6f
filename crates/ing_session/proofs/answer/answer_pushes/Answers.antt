use Rattle.std.proofs.Common.{◌∙◌, ◌-◌, ◌++◌, ap, length, map, subst}
use Rattle.ing_commands.specs.Views.{push_view}
use Rattle.ing_session.specs.PushLines.{rest_of}
use Rattle.ing_session.specs.Runs.{PushesLines, lines_text}
use Rattle.ing_session.specs.Views.{reply_data}
use Rattle.ing_session.proofs.PushedLaws.{pushed_lines}
use Rattle.ing_session.proofs.answer.answer_pushes.Goals as goal

pub returns-clause-answered : goal.returns-clause-answered
returns-clause-answered g c = λ line count old says is_held.
    let m = g.C.Service.manner in
    let settings = g.C.Service.settings_of c.args.service.now in
    let holds = g.C.Service.holds c.push_lines.new.self in
    let push = push_view c.args.push in
    let ahead = c.args.ahead.now in
    let rest = rest_of c.push_lines.new.lines in
    let replies = map reply_data c.in_ok-told.told.items in
    let before = c.args.replies.now.items in
    let pushes : PushesLines m settings push ahead rest old holds replies =
    subst (λ bytes. PushesLines m settings push bytes rest old holds replies) c.new-lines.ensures (c.in_ok-told.ensures.obeyed old is_held) in
    pushed_lines m settings line push ahead rest c.saturating_sub.result old holds count replies before c.add_lines.new.replies.items says pushes
    (c.saturating_sub.ensures ∙ ap (λ n. length ahead - n) c.left.ensures)
    (c.in_ok-add_lines.ensures.text ∙ ap (λ l. before ++ lines_text (map reply_data l)) c.deref.ensures.value)
