use Rattle.std.proofs.Common.{◌≡◌, All, sum_by}
use Rattle.ing_store.specs.declared.memory_end.Fuse.TheVariants as fuses
use Rattle.ing_program.proofs.program.ends_of.Given as goal

-- none of them ever fails
abbrev pub invariant-loop : goal.invariant-loop
invariant-loop g l = record {
  sure : All (λ end. end.fuse ≡ fuses.None) l.ends.items;
  fresh : sum_by (λ end. end.failures) l.ends.items ≡ 0;
}
