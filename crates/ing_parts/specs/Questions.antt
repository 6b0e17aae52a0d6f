-- What is asked of entries, without where its text lies in memory.
use Rattle.std.specs.Prelude.{ℕ, Option}
use Rattle.std.specs.Option.{option_map}
use Rattle.ing_rows.specs.Cursors.{Cursor, cursor_view}
use Rattle.ing_rows.specs.declared.order.Order.{Order}
use Rattle.ing_parts.specs.declared.found.Question as code

-- Those whose stamp is at least the start and below the end, the first ones in the order, so many at most (Loki documentation: HTTP
-- API, query range: start, end, direction and limit); where there is a cursor, of those that stand behind it in the order (own).
pub record Question : Type 0 where
  pub start : ℕ
  pub end : ℕ
  pub order : Order
  pub limit : ℕ
  pub after : Option Cursor

abbrev pub question_view : code.Question → Question
question_view q = record { start = q.start; end = q.end; order = q.order; limit = q.limit; after = option_map cursor_view q.after }
