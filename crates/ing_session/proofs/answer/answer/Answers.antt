use Rattle.std.proofs.Common.{◌≡◌, ◌∙◌, false, refl, sym}
use Rattle.std.proofs.lemmas.Result.{IfOk-weaker}
use Rattle.ing_commands.specs.Views.{push_view}
use Rattle.ing_session.specs.Manners.{is_blank}
use Rattle.ing_session.specs.PushLines.{SaysPush}
use Rattle.ing_session.specs.Views.{reply_data}
use Rattle.ing_session.proofs.ObeyLaws.{answers, answers_blank}
use Rattle.ing_session.proofs.RunsLaws.{alone}
use Rattle.ing_session.proofs.answer.answer.Goals as goal

pub returns-then-is_blank-clause-answered : goal.returns-then-is_blank-clause-answered
returns-then-is_blank-clause-answered g c = λ old is_held.
    let m = g.C.Service.manner in
    let service = c.args.service.now in
    let settings = g.C.Service.settings_of service in
    let holds = g.C.Service.holds service in
    let line = c.args.at_hand.line.now in
    let replies = c.args.replies.now.items in
    let count = g.C.Service.failures c.args.end.now in
    alone m settings line c.args.at_hand.ahead.now old holds count count replies replies
    (answers_blank m settings line old holds replies replies c.requires.short count (sym c.is_blank.ensures ∙ c.if-is_blank.true) refl is_held)

-- with those at hand behind it
pub returns-in-Some-clause-answered : goal.returns-in-Some-clause-answered
returns-in-Some-clause-answered g c =
    let line = c.args.at_hand.line.now in
    let says : SaysPush line (push_view c.in-Some.push) =
    record { short = c.requires.short; filled = sym c.is_blank.ensures ∙ c.if-is_blank.false; said = rw c.in-Some.is at c.in_ok-push.ensures } in
    IfOk-weaker c.answer_pushes.result _ _ (λ taken answers old is_held. answers line (g.C.Service.failures c.args.end.now) old says is_held) c.answer_pushes.ensures.answered

pub returns-clause-answered : goal.returns-clause-answered
returns-clause-answered g c = λ old is_held.
    let m = g.C.Service.manner in
    let settings = g.C.Service.settings_of c.args.service.now in
    let holds = g.C.Service.holds c.reply_to.new.service in
    let line = c.args.at_hand.line.now in
    let before = c.args.replies.now.items in
    let after = c.add_line.new.replies.items in
    let failures = g.C.Service.failures in
    let blank : is_blank line ≡ false = sym c.is_blank.ensures ∙ c.if-is_blank.false in
    alone m settings line c.args.at_hand.ahead.now old holds (failures c.args.end.now) (failures c.reply_to.new.end) before after
    (answers m settings line old holds before after c.requires.short (failures c.args.end.now) (failures c.reply_to.new.end) (reply_data c.in_ok-reply.reply) blank c.in_ok-add_line.ensures.text
    (c.in_ok-reply.ensures.obeyed old is_held))
