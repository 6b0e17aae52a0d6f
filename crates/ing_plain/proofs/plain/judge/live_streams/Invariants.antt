use Rattle.std.proofs.Common.{◌≡◌, ◌≤◌, ◌&&◌, nat_eq, bytes_eq, filter, take, reverse, length}
use Rattle.ing_plain.proofs.plain.judge.live_streams.Given as goal

-- the first entries of the tenant's streams so far
abbrev pub invariant-loop-row : goal.invariant-loop-row
invariant-loop-row l = record {
  counted : l.live ≡ length (filter (λ r. bytes_eq r.stream.tenant l.tenant && nat_eq r.number 0) (reverse (take l.row-index l.rows)));
  few : l.live ≤ l.row-index;
}
