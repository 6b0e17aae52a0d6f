use Rattle.std.proofs.Common.{ap, ◌∙◌, subst}
use Rattle.std.specs.Prelude.{OnOk}
use Rattle.ing_parts.specs.Answers.{Offers}
use Rattle.ing_parts.specs.Parts.{found_between}
use Rattle.ing_parts.specs.Questions.{question_view}
use Rattle.ing_parts.proofs.OfferLaws.{between_again}
use Rattle.ing_parts.proofs.offers.offer_head.Goals as goal

pub returns-in-Some : goal.returns-in-Some
returns-in-Some c =
    subst (λ l. OnOk c.offer_run.result (Offers l c.args.best.now c.offer_run.new.best))
    (ap (found_between c.args.name.now (question_view c.args.question.now)) c.in-Some.ensures.value ∙ between_again c.args.name.now (question_view c.args.question.now) c.args.head.now)
    c.offer_run.ensures
