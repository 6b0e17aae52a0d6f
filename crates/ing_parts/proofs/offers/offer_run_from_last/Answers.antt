use Rattle.std.proofs.Common.{◌≡◌, ℕ, ◌-◌, ◌+◌, ◌∷◌, [], drop, ap, subst, sym, ◌∙◌, arith}
use Rattle.ing_parts.specs.Answers.{Offers, PassesOver}
use Rattle.ing_parts.specs.Parts.{found_between}
use Rattle.ing_parts.specs.Questions.{question_view}
use Rattle.ing_parts.proofs.OfferLaws.{front_of_run, left_from, offers_previous}
use Rattle.ing_parts.proofs.offers.offer_run_from_last.Goals as goal

pub returns-then-bars : goal.returns-then-bars
returns-then-bars c =
    let at = c.loop-index in
    let run = c.args.run.now in
    let i : ℕ = at.index - 1 in
    let e = c.index-run-index.result in
    let next : i + 1 ≡ at.index = omega arith in
    front_of_run c.stamps_rise.ensures c.args.name.now (question_view c.args.question.now) run c.requires.ordered i e (omega arith) c.index-run-index.is
    c.args.best.now at.best (at.invariant.order ∙ c.requires.backward) (subst (λ n. PassesOver n at.best) c.nanoseconds.ensures.value (c.bars.ensures c.if-bars.true))
    (subst (λ n. Offers (found_between c.args.name.now (question_view c.args.question.now) (drop n run)) c.args.best.now at.best) (sym next) at.invariant)

pub loop-index-preserved : goal.loop-index-preserved
loop-index-preserved c =
    let at = c.loop-index in
    let run = c.args.run.now in
    let i : ℕ = at.index - 1 in
    let e = c.index-run-index.result in
    let next : i + 1 ≡ at.index = omega arith in
    let left = left_from run i e (omega arith) c.index-run-index.is ∙ ap (λ n. e ∷ drop n run) next in
    offers_previous c.args.name.now (question_view c.args.question.now) (drop at.index run) (e ∷ []) (drop i run) c.args.best.now at.best c.offer_one.new.best left at.invariant c.in_ok-offer_one.ensures
