use Rattle.std.proofs.Common.{◌≡◌, filter, map, take}
use Rattle.ing_parts.specs.Parts.{found_among}
use Rattle.ing_diary.specs.Fronts.{is_from}
use Rattle.ing_diary.specs.Notes.{AreRead, has_number, numbered_of}
use Rattle.ing_diary.proofs.reading.read_parts.Given as goal

-- the entries of the parts so far
abbrev pub invariant-loop-part : goal.invariant-loop-part
invariant-loop-part g l = record {
  all : AreRead has_number g.S.StoreEnd.is_honest (filter (is_from l.front) (map numbered_of (found_among (take l.part-index l.parts)))) l.entries.items;
  count : g.S.StoreEnd.failure_count l.end ≡ g.S.StoreEnd.failure_count l.initial.end;
  sure : g.S.StoreEnd.never_fails l.initial.end → g.S.StoreEnd.never_fails l.end;
}
