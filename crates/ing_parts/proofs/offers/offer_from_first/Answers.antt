use Rattle.std.proofs.Common.{◌+◌, ◌∷◌, [], take}
use Rattle.ing_parts.specs.Questions.{question_view}
use Rattle.ing_parts.proofs.OfferLaws.{offers_next, up_to}
use Rattle.ing_parts.proofs.offers.offer_from_first.Goals as goal

pub loop-numbered-preserved : goal.loop-numbered-preserved
loop-numbered-preserved c =
    let at = c.loop-numbered in
    let es = c.args.entries.now in
    let i = at.numbered-index in
    let e = c.numbered-item.result in
    offers_next c.args.name.now (question_view c.args.question.now) (take i es) (e ∷ []) (take (i + 1) es) c.args.best.now at.best c.offer_one.new.best (up_to es i e c.loop-numbered-test.true c.numbered-item.is) at.invariant c.in_ok-offer_one.ensures
