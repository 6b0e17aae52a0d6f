use Rattle.std.proofs.Common.{◌∙◌, All, Some, ap, arith, subst, sum_by, sym}
use Rattle.std.proofs.lemmas.List.Elements.{All-pop, All-push}
use Rattle.std.proofs.lemmas.List.Sums.{sum_by_push}
use Rattle.ing_service.proofs.uploads.take_back.Goals as goal

pub loop-worker-preserved : goal.loop-worker-preserved
loop-worker-preserved g c =
    let count = g.S.StoreEnd.failure_count in
    let never = g.S.StoreEnd.never_fails in
    let inv = c.loop-worker.invariant in
    let x = c.in-Some.worker in
    let left = c.pop.new.self.items in
    let popped = c.in-Some.ensures.items in
    let pushed = c.push_reserved.ensures.items in
    let less = ap (sum_by (λ w. count w.end)) popped ∙ sum_by_push (λ w. count w.end) left x in
    let more = ap (sum_by count) pushed ∙ sum_by_push count c.loop-worker.ends.items x.end in
    record {
      failures = omega (arith, inv.failures, more, less);
      sure = λ all.
          let both = inv.sure all in
          let out = All-pop (λ w. never w.end) c.loop-worker.workers.items left (Some x) popped both.0 in (
            out.0,
            subst (All never) (sym pushed) (All-push never c.loop-worker.ends.items x.end both.1 out.1),
          );
      room = omega (arith, inv.room, c.in-Some.ensures.cases, c.push_reserved.ensures.len, c.push_reserved.ensures.capacity);
    }
