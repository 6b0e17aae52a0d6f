use Rattle.std.proofs.Common.{◌≡◌, map, take}
use Rattle.std.specs.List.{flat_map}
use Rattle.ing_rows.specs.Rows.{rows_of}
use Rattle.ing_diary.specs.Fronts.{front_in, rows_since}
use Rattle.ing_diary.specs.Notes.{AreReadAs, note_of}
use Rattle.ing_diary.proofs.reading.read_since.Given as goal

-- the entries of the streams so far
abbrev pub invariant-loop-number : goal.invariant-loop-number
invariant-loop-number g l = record {
  all :
      AreReadAs g.S.StoreEnd.is_honest (map note_of (flat_map (λ s. rows_of s (rows_since (front_in l.fronts) l.shard.state.rows)) (take l.number l.shard.listed)))
      (flat_map (λ noted. noted) l.all.items);
  count : g.S.StoreEnd.failure_count l.end ≡ g.S.StoreEnd.failure_count l.initial.end;
  sure : g.S.StoreEnd.never_fails l.initial.end → g.S.StoreEnd.never_fails l.end;
}
