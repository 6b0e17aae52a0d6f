use Rattle.std.proofs.Common.{◌∙◌, ap, arith, sum_by}
use Rattle.std.proofs.lemmas.List.Sums.{sum_by_push}
use Rattle.ing_program.proofs.folders.ends_in.Goals as goal

-- nor has one more
pub loop-place-preserved : goal.loop-place-preserved
loop-place-preserved g c =
    let count = g.E.StoreEnd.failure_count in
    record {
      all = omega (arith, c.loop-place.invariant.all, c.in_ok-push.ensures.len);
      fresh = ap (sum_by count) c.in_ok-push.ensures.items ∙ sum_by_push count c.loop-place.ends.items c.in_ok-end_in.field-0 ∙ omega (arith, c.loop-place.invariant.fresh, c.in_ok-end_in.ensures.fresh);
    }
