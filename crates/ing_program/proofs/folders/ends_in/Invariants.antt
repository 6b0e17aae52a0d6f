use Rattle.std.proofs.Common.{◌≡◌, sum_by, vec_len}
use Rattle.ing_program.proofs.folders.ends_in.Given as goal

-- none of them has failed yet
abbrev pub invariant-loop-place : goal.invariant-loop-place
invariant-loop-place g l = record {
  all : vec_len l.ends ≡ l.place;
  fresh : sum_by g.E.StoreEnd.failure_count l.ends.items ≡ 0;
}
