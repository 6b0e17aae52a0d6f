use Rattle.std.proofs.Common.{◌≡◌, map, take}
use Rattle.std.specs.Prelude.{IsPermutation}
use Rattle.ing_parts.specs.Parts.{found_among}
use Rattle.ctl_export.specs.Reads.{numbered_of}
use Rattle.ctl_export.proofs.reading.read_parts.Given as goal

-- the entries of the parts so far
abbrev pub invariant-loop-part : goal.invariant-loop-part
invariant-loop-part g l = record {
  all : g.S.StoreEnd.is_honest → IsPermutation (map numbered_of (found_among (take l.part-index l.parts))) l.entries.items;
  count : g.S.StoreEnd.failure_count l.end ≡ g.S.StoreEnd.failure_count l.initial.end;
  sure : g.S.StoreEnd.never_fails l.initial.end → g.S.StoreEnd.never_fails l.end;
}
