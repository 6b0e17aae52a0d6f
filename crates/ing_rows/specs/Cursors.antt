-- The place of an entry in an order of answers, without where its text lies in memory (own).
use Rattle.std.specs.Prelude.{ℕ, List}
use Rattle.ing_rows.specs.declared.cursor.Cursor as code

-- the stamp of an entry, the canonical name of its stream, and how many entries of that were accepted before it
pub record Cursor : Type 0 where
  pub stamp : ℕ
  pub stream : List ℕ
  pub number : ℕ

abbrev pub cursor_view : code.Cursor → Cursor
cursor_view c = record { stamp = c.stamp; stream = c.stream.now; number = c.number }
