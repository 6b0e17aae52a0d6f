use Rattle.std.proofs.Common.{◌∙◌, arith}
use Rattle.std.proofs.lemmas.List.Sorted.{IsPermutation-trans}
use Rattle.ing_parts.specs.Answers.{precedes}
use Rattle.ing_parts.proofs.HeapLaws.{down}
use Rattle.ing_parts.proofs.best.sink.Goals as goal

pub loop-at-preserved : goal.loop-at-preserved
loop-at-preserved c =
    let at = c.loop-at in
    let e = c.last_below-below.ensures in
    let new = c.swap.new.self in
    record {
      within = omega (arith, e.within, c.swap.ensures.len);
      count = c.swap.ensures.len ∙ at.invariant.count;
      same = IsPermutation-trans c.args.held.now at.held new at.invariant.same c.swap.ensures.permutation;
      rest = down (precedes c.args.order) at.held new at.at c.last_below-below.result e.above e.below e.within c.swap.ensures.after e.last at.invariant.rest;
    }
