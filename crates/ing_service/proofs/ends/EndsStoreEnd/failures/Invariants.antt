use Rattle.std.proofs.Common.{◌≡◌, ◌+◌, sum_by, take}
use Rattle.ing_service.specs.Ends.{up_to_last}
use Rattle.ing_service.proofs.ends.EndsStoreEnd.failures.Given as goal

abbrev pub invariant-loop-other : goal.invariant-loop-other
invariant-loop-other g l = record {
  all : l.all ≡ up_to_last (g.S.StoreEnd.failure_count l.self.own + sum_by g.S.StoreEnd.failure_count (take l.other-index l.self.others.items));
}
