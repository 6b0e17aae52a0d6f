use Rattle.std.proofs.Common.{rules, ◌≡◌, is_lt, sym, subst, take_all, arith}
use Rattle.std.proofs.lemmas.Fn.{always_returns_same}
use Rattle.std.proofs.lemmas.List.Sorted.{length_permutation}
use Rattle.ing_parts.specs.Answers.{BestState, IsAnswer, precedes}
use Rattle.ing_parts.proofs.StandLaws.{precedes_is_order}
use Rattle.ing_parts.proofs.best.Best.into_answer.Goals as goal

pub returns : goal.returns
returns c =
    let inside = c.self.inside in
    let sorted = c.sort_unstable_by.new.self.items in
    let count = length_permutation inside.held.items sorted c.sort_unstable_by.ensures.permutation in
    let answer : IsAnswer inside.order inside.limit inside.held.items sorted = record {
      sorted = sorted;
      same = c.sort_unstable_by.ensures.permutation;
      in_order = c.sort_unstable_by.ensures.sorted (precedes inside.order) (precedes_is_order inside.order) (always_returns_same _ (λ a r. is_lt r ≡ precedes inside.order a.0.now a.1.0.now) _ (search rules));
      cut = sym (take_all inside.limit sorted (omega (arith, count, c.self.invariant.few)));
    } in
    subst (λ (b : BestState). IsAnswer b.order b.limit b.held sorted) c.self.view_is answer
