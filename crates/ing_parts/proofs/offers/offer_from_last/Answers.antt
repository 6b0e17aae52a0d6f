use Rattle.std.proofs.Common.{◌≡◌, ◌-◌, ◌+◌, ◌∷◌, [], drop, ap, ◌∙◌, arith, ℕ}
use Rattle.ing_parts.specs.Questions.{question_view}
use Rattle.ing_parts.proofs.OfferLaws.{left_from, offers_previous}
use Rattle.ing_parts.proofs.offers.offer_from_last.Goals as goal

pub loop-index-preserved : goal.loop-index-preserved
loop-index-preserved c =
    let at = c.loop-index in
    let es = c.args.entries.now in
    let i : ℕ = at.index - 1 in
    let e = c.index-entries-index.result in
    let next : i + 1 ≡ at.index = omega arith in
    let left = left_from es i e (omega arith) c.index-entries-index.is ∙ ap (λ n. e ∷ drop n es) next in
    offers_previous c.args.name.now (question_view c.args.question.now) (drop at.index es) (e ∷ []) (drop i es) c.args.best.now at.best c.offer_one.new.best left at.invariant c.in_ok-offer_one.ensures
