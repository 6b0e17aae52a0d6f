-- When an entry that was read is one in memory (own). For private clauses.
use Rattle.std.specs.Prelude.{Bool, ◌&&◌, ◌==◌}
use Rattle.ing_rows.specs.Verdicts.{is_same}
use Rattle.ing_chunk.specs.declared.numbered.Numbered.{Numbered}

-- they have the same number, stamp and line
abbrev pub is_entry : Numbered → Numbered → Bool
is_entry e n = (n.number == e.number) && is_same n.entry e.entry
