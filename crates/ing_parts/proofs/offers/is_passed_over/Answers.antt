use Rattle.std.proofs.Common.{◌≡◌, ◌≤◌, ◌<◌, ◌⊎◌, inl, inr, sym, subst, ◌∙◌, arith}
use Rattle.ing_chunk.specs.Chunks.{IsSpanOf, greatest_of, least_of}
use Rattle.ing_rows.specs.declared.order.Order.TheVariants.{Forward, Backward}
use Rattle.ing_parts.specs.Parts.{AreFrom}
use Rattle.ing_parts.specs.Questions.{question_view}
use Rattle.ing_parts.proofs.OfferLaws.{offers_from, offers_missed}
use Rattle.ing_parts.proofs.offers.is_passed_over.Goals as goal
use Rattle.ing_parts.proofs.offers.is_passed_over.Goals.{then-greatest-question-via-then-greatest-question, then-greatest-question-via-else-greatest-question+then-question-least}

pub returns-then-greatest-question : goal.returns-then-greatest-question
returns-then-greatest-question c = λ _ name es span.
    let some = subst (λ o. IsSpanOf o es) c.in-Some.is span in
    let outside : (greatest_of es < c.args.question.now.start) ⊎ (c.args.question.now.end ≤ least_of es) = elim c.then-greatest-question.branch [
      | then-greatest-question-via-then-greatest-question w ↦ inl (omega (arith, some.2, w.if-greatest-question.true))
      | then-greatest-question-via-else-greatest-question+then-question-least w ↦ inr (omega (arith, some.1, w.if-question-least.true))
    ] in
    offers_missed name (question_view c.args.question.now) es c.args.best.now (c.spans_bound_stamps.ensures c.args.question.now.start c.args.question.now.end es outside)

pub returns-in-Forward : goal.returns-in-Forward
returns-in-Forward c = λ barred name es span.
    let b = c.args.best.now in
    let some = subst (λ o. IsSpanOf o es) c.in-Some.is span in
    let from : c.in-Some.least ≤ least_of es = omega (arith, some.1) in
    let order : Forward ≡ b.order = sym c.in-Forward.is ∙ c.order.ensures in
    offers_from name (question_view c.args.question.now) c.in-Some.least es b (c.bars.ensures barred) (subst (λ o. AreFrom o c.in-Some.least es) order from)

pub returns-in-Backward : goal.returns-in-Backward
returns-in-Backward c = λ barred name es span.
    let b = c.args.best.now in
    let some = subst (λ o. IsSpanOf o es) c.in-Some.is span in
    let from : greatest_of es ≤ c.in-Some.greatest = omega (arith, some.2) in
    let order : Backward ≡ b.order = sym c.in-Backward.is ∙ c.order.ensures in
    offers_from name (question_view c.args.question.now) c.in-Some.greatest es b (c.bars-in-Backward.ensures barred) (subst (λ o. AreFrom o c.in-Some.greatest es) order from)
