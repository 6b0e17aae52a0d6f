use Rattle.std.proofs.Common.{◌≡◌, ◌∙◌, [], All, Some, ap, arith, subst, sum_by, sym}
use Rattle.std.proofs.lemmas.List.Elements.{All-pop, All-push}
use Rattle.std.proofs.lemmas.List.Sums.{sum_by_push}
use Rattle.ing_service.proofs.uploads.lend.Goals as goal

pub loop-end-preserved : goal.loop-end-preserved
loop-end-preserved g c =
    let count = g.S.StoreEnd.failure_count in
    let never = g.S.StoreEnd.never_fails in
    let inv = c.loop-end.invariant in
    let x = c.in-Some.end in
    let left = c.pop.new.self.items in
    let popped = c.in-Some.ensures.items in
    let pushed = c.push_reserved.ensures.items in
    let more = ap (sum_by (λ w. count w.end)) pushed ∙ sum_by_push (λ w. count w.end) c.loop-end.workers.items _ in
    let less = ap (sum_by count) popped ∙ sum_by_push count left x in
    record {
      failures = omega (arith, inv.failures, more, less);
      sure = λ all.
          let both = inv.sure all in
          let out = All-pop never c.loop-end.ends.items left (Some x) popped both.1 in (
            subst (All (λ w. never w.end)) (sym pushed) (All-push (λ w. never w.end) c.loop-end.workers.items _ both.0 out.1),
            out.0,
          );
      all = omega (arith, inv.all, c.in-Some.ensures.cases, c.push_reserved.ensures.len);
      unnoted = subst (All (λ w. w.noted.items ≡ [])) (sym pushed) (All-push (λ w. w.noted.items ≡ []) c.loop-end.workers.items _ inv.unnoted c.new-noted.ensures.items);
      room = omega (arith, inv.room, c.push_reserved.ensures.capacity);
      kept = c.pop.ensures.capacity ∙ inv.kept;
    }
