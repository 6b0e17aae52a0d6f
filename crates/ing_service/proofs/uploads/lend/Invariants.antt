use Rattle.std.proofs.Common.{◌≡◌, ◌+◌, ◌≤◌, [], All, sum_by}
use Rattle.std.specs.Prelude.{vec_len, vec_capacity}
use Rattle.ing_service.proofs.uploads.lend.Given as goal

-- each end stands in the list or with a worker
abbrev pub invariant-loop-end : goal.invariant-loop-end
invariant-loop-end g l =
    let count = g.S.StoreEnd.failure_count in
    let never = g.S.StoreEnd.never_fails in
    record {
      failures : sum_by (λ w. count w.end) l.workers.items + sum_by count l.ends.items ≡ sum_by count l.fn.ends.items;
      sure : All never l.fn.ends.items → All (λ w. never w.end) l.workers.items × All never l.ends.items;
      all : vec_len l.workers + vec_len l.ends ≡ vec_len l.fn.ends;
      unnoted : All (λ w. w.noted.items ≡ []) l.workers.items;
      room : vec_len l.fn.ends ≤ vec_capacity l.workers;
      kept : vec_capacity l.ends ≡ vec_capacity l.fn.ends;
    }

abbrev pub decreases-loop-end : goal.decreases-loop-end
decreases-loop-end g l = vec_len l.ends
