-- All entries of a stream, in the order of their numbers (own).
use Rattle.std.specs.Prelude.{ℕ, List, map, IsPermutation}
use Rattle.std.specs.List.Sorted.{IsNonDecreasingBy}
use Rattle.ing_rows.specs.Rows.{Row, StreamKey, rows_of}
use Rattle.ing_chunk.specs.declared.numbered.Numbered.{Numbered}
use Rattle.ing_parts.specs.declared.found.Found.{Found}

-- a row without where it stands
abbrev pub numbered_row : Row → Numbered
numbered_row r = record { number = r.number; entry = r.entry }

-- what was read, without its stream
abbrev pub numbered_of : Found → Numbered
numbered_of f = record { number = f.number; entry = f.entry }

-- the number of an entry in its stream
abbrev pub number_of : Numbered → ℕ
number_of e = e.number

-- These are the entries of the stream in these rows, each once, and no other.
abbrev pub AreOf : StreamKey → List Row → List Numbered → Type 0
AreOf s rows entries = IsPermutation (map numbered_row (rows_of s rows)) entries

-- none comes before one of a lower number
abbrev pub AreInOrder : List Numbered → Type 0
AreInOrder = IsNonDecreasingBy number_of
