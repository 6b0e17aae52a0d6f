use Rattle.std.proofs.Common.{◌≡◌, ◌+◌, ◌≤◌, All, sum_by}
use Rattle.std.specs.Prelude.{vec_len, vec_capacity}
use Rattle.ing_service.proofs.uploads.take_back.Given as goal

-- each end stands in the list or with a worker
abbrev pub invariant-loop-worker : goal.invariant-loop-worker
invariant-loop-worker g l =
    let count = g.S.StoreEnd.failure_count in
    let never = g.S.StoreEnd.never_fails in
    record {
      failures : sum_by (λ w. count w.end) l.workers.items + sum_by count l.ends.items ≡ sum_by (λ w. count w.end) l.fn.workers.items;
      sure : All (λ w. never w.end) l.fn.workers.items → All (λ w. never w.end) l.workers.items × All never l.ends.items;
      room : vec_len l.workers + vec_len l.ends ≤ vec_capacity l.ends;
    }

abbrev pub decreases-loop-worker : goal.decreases-loop-worker
decreases-loop-worker g l = vec_len l.workers
