use Rattle.std.proofs.Common.{◌+◌, ◌∷◌, [], ◌∙◌, subst, take}
use Rattle.ing_parts.specs.Answers.{PassesOver}
use Rattle.ing_parts.specs.Questions.{question_view}
use Rattle.ing_parts.proofs.OfferLaws.{offers_next, rest_of_run, up_to}
use Rattle.ing_parts.proofs.offers.offer_run_from_first.Goals as goal

pub returns-then-bars : goal.returns-then-bars
returns-then-bars c =
    let at = c.loop-numbered in
    let e = c.numbered-item.result in
    rest_of_run c.stamps_rise.ensures c.args.name.now (question_view c.args.question.now) c.args.run.now c.requires.ordered at.numbered-index e c.loop-numbered-test.true c.numbered-item.is
    c.args.best.now at.best (at.invariant.order ∙ c.requires.forward) (subst (λ n. PassesOver n at.best) c.nanoseconds.ensures.value (c.bars.ensures c.if-bars.true)) at.invariant

pub loop-numbered-preserved : goal.loop-numbered-preserved
loop-numbered-preserved c =
    let at = c.loop-numbered in
    let run = c.args.run.now in
    let i = at.numbered-index in
    let e = c.numbered-item.result in
    offers_next c.args.name.now (question_view c.args.question.now) (take i run) (e ∷ []) (take (i + 1) run) c.args.best.now at.best c.offer_one.new.best (up_to run i e c.loop-numbered-test.true c.numbered-item.is) at.invariant c.in_ok-offer_one.ensures
