use Rattle.std.proofs.Common.{take}
use Rattle.ing_relist.specs.Counts.{AddsTo, IsSmall}
use Rattle.ing_relist.proofs.counted.with_entries.Given as goal

-- the entries before are counted
abbrev pub invariant-loop-entry : goal.invariant-loop-entry
invariant-loop-entry l = record {
  adds : AddsTo (take l.entry-index l.entries) l.fn.counted l.sum;
  small : IsSmall l.sum;
}
