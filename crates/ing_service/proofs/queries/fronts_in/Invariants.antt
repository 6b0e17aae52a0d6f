use Rattle.std.proofs.Common.{◌≡◌, map, take}
use Rattle.ing_service.proofs.queries.fronts_in.Given as goal

-- those of the first snapshots
abbrev pub invariant-loop-snapshot : goal.invariant-loop-snapshot
invariant-loop-snapshot g l = l.fronts.items ≡ map (λ snapshot. snapshot.front) (take l.snapshot-index l.snapshots)
