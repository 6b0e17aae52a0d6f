use Rattle.std.proofs.Common.{◌≡◌, ◌+◌, ◌≤◌, ◌++◌, drop, length, vec_capacity, vec_len}
use Rattle.std.specs.Vec.Iter.{into_iter_items, into_iter_len}
use Rattle.ing_rows.specs.Rows.{StreamKey}
use Rattle.ing_diary.specs.Notes.{noted, notes_of}
use Rattle.ing_diary.proofs.noting.accepted_of.Given as goal

-- those that are left do the rest
abbrev pub invariant-loop-entry : goal.invariant-loop-entry
invariant-loop-entry l = record {
  rest : (s : StreamKey) → notes_of s l.accepted.items ++ noted s (into_iter_items l.entry-iterator) (drop l.place l.verdicts)
      ≡ noted s l.fn.entries.items l.verdicts;
  room : vec_len l.accepted + length (into_iter_items l.entry-iterator) ≤ vec_capacity l.accepted;
  few : l.place + length (into_iter_items l.entry-iterator) ≡ vec_len l.fn.entries;
  left : into_iter_len l.entry-iterator ≡ length (into_iter_items l.entry-iterator);
}
