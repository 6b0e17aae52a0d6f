-- Rows without chunk, block and place: what was accepted, wherever it is kept.
-- What names no section of the Loki documentation is own.
use Rattle.std.specs.Prelude.{ℕ}
use Rattle.ing_rows.specs.declared.entry.Entry.{Entry}
use Rattle.ing_rows.specs.Rows.{StreamKey, Row}

-- an accepted entry with its stream and its number in it
pub record Numbered : Type 0 where
  pub stream : StreamKey
  pub number : ℕ
  pub entry : Entry

-- a row without chunk, block and place
abbrev pub numbered : Row → Numbered
numbered r = record { stream = r.stream; number = r.number; entry = r.entry }
