use Rattle.std.proofs.Common.{◌≡◌, [], List, length, ap, subst, sym, ◌∙◌, arith}
use Rattle.std.specs.Vec.Iter.{into_iter_items}
use Rattle.ing_parts.specs.declared.found.Found.{Found}
use Rattle.ing_parts.specs.Answers.{Offers}
use Rattle.ing_parts.proofs.OfferLaws.{empty_is, offers_none, offers_step}
use Rattle.ing_parts.proofs.best.Best.take_over.Goals as goal

pub loop-found-preserved : goal.loop-found-preserved
loop-found-preserved c =
    let at = c.loop-found in
    let steps = c.in-Some.ensures.steps in
    record {
      count = omega (arith, at.invariant.count, ap length steps.0, steps.1);
      rest = λ last left. offers_step c.in-Some.found (into_iter_items c.next.new.self) (into_iter_items at.found-iterator) c.args.other.held c.args.self.now at.self c.offer.new.self last steps.0 c.in_ok-offer.ensures at.invariant.rest left;
    }

pub returns : goal.returns
returns c =
    let at = c.loop-found in
    let none : into_iter_items at.found-iterator ≡ [] = empty_is (into_iter_items at.found-iterator) (at.invariant.count ∙ c.in-None.ensures.steps.0) in
    at.invariant.rest at.self (subst (λ (l : List Found). Offers l at.self at.self) (sym none) (offers_none at.self))
