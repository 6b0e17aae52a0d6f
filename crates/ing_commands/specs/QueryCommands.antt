-- The command that asks for entries: its shape, its faults, and what it says.
-- What names no section of the Loki documentation is own.
use Rattle.std.specs.Prelude.{ℕ, ◌^◌, List, codes, bytes_eq, ◌&&◌, Bool, false, nat_lt, nat_le, if◌then◌else◌, Option, Some, None, option_and_then, Result, Ok, Err}
use Rattle.std.specs.Option.{ok_or}
use Rattle.serde_json.specs.Data.{Data}
use Rattle.serde_json.specs.Find.{get, as_number, as_u64}
use Rattle.ing_rows.specs.Cursors.{Cursor}
use Rattle.ing_rows.specs.declared.order.Order.{Order}
use Rattle.ing_rows.specs.declared.order.Order.TheVariants.{Forward, Backward}
use Rattle.ing_refusals.specs.Results.{◌>>=◌}
use Rattle.ing_rows.specs.Texts.{is_tenant, stamp_of}
use Rattle.ing_commands.specs.declared.fault.LineFault.{LineFault}
use Rattle.ing_commands.specs.declared.fault.LineFault.TheVariants.{BadCommand, BadTenant, BadStamp}
use Rattle.ing_commands.specs.Shapes.{flag_at, number_at, text_at, text_or}

-- the texts of a cursor, and its number
pub record RawCursor : Type 0 where
  pub stamp : List ℕ
  pub stream : List ℕ
  pub number : ℕ

-- the texts of a query, and its numbers
pub record RawQuery : Type 0 where
  pub tenant : List ℕ
  pub text : List ℕ
  pub start : List ℕ
  pub end : List ℕ
  pub limit : ℕ
  pub order : Order
  pub after : Option RawCursor
  pub pages : Bool

-- of this tenant's streams that the text selects, the first entries in this order, so many at most, from the start on and before
-- the end (Loki documentation: HTTP API, query range), and behind the cursor, where there is one; and whether the reply is to tell where
-- the next page begins (own)
pub record QueryCommand : Type 0 where
  pub tenant : List ℕ
  pub text : List ℕ
  pub start : ℕ
  pub end : ℕ
  pub limit : ℕ
  pub order : Order
  pub after : Option Cursor
  pub pages : Bool

-- 1 to 5000 entries may be asked for
abbrev pub limit_in : ℕ → Result ℕ LineFault
limit_in n = if nat_lt 0 n && nat_le n 5000 then Ok n else Err BadCommand

abbrev pub limit_of : Option Data → Result ℕ LineFault
limit_of None = Ok 100
limit_of (Some d) = ok_or (option_and_then as_u64 (as_number d)) BadCommand >>= limit_in

-- the member `limit`, an integer, which may be absent
abbrev pub limit_at : Data → Result ℕ LineFault
limit_at d = limit_of (get (codes "limit") d)

abbrev pub order_of : List ℕ → Result Order LineFault
order_of text =
    if bytes_eq text (codes "forward") then Ok Forward
    else if bytes_eq text (codes "backward") then Ok Backward
    else Err BadCommand

-- the cursor that a value is: an entry as a reply has it, whatever else that has
unfoldable pub cursor_in : Data → Result RawCursor LineFault
cursor_in d = do
  stamp ← text_at (codes "stamp") d
  stream ← text_at (codes "stream") d
  number ← number_at (codes "number") d
  Ok (record { stamp = stamp; stream = stream; number = number })

abbrev pub cursor_of : Option Data → Result (Option RawCursor) LineFault
cursor_of None = Ok None
cursor_of (Some d) = cursor_in d >>= λ cursor. Ok (Some cursor)

-- the member `after`, a cursor, which may be absent
abbrev pub after_at : Data → Result (Option RawCursor) LineFault
after_at d = cursor_of (get (codes "after") d)

-- a value of the shape
unfoldable pub raw_query : Data → Result RawQuery LineFault
raw_query d = do
  tenant ← text_at (codes "tenant") d
  text ← text_at (codes "query") d
  start ← text_or (codes "start") (codes "0") d
  end ← text_or (codes "end") (codes "9223372036854775808") d
  limit ← limit_at d
  direction ← text_or (codes "direction") (codes "backward") d
  order ← order_of direction
  after ← after_at d
  pages ← flag_at (codes "pages") false d
  Ok (record { tenant = tenant; text = text; start = start; end = end; limit = limit; order = order; after = after; pages = pages })

abbrev pub tenant_of : List ℕ → Result (List ℕ) LineFault
tenant_of text = if is_tenant text then Ok text else Err BadTenant

-- the end of the range may be the first number that is no stamp
abbrev pub end_of : List ℕ → Result ℕ LineFault
end_of text = if bytes_eq text (codes "9223372036854775808") then Ok (2 ^ 63) else ok_or (stamp_of text) BadStamp

-- the cursor of these texts and this number, where there is one
abbrev pub behind_of : Option RawCursor → Result (Option Cursor) LineFault
behind_of None = Ok None
behind_of (Some raw) = ok_or (stamp_of raw.stamp) BadStamp >>= λ stamp. Ok (Some (record { stamp = stamp; stream = raw.stream; number = raw.number }))

-- the query of these texts and numbers, or their first fault
unfoldable pub checked : RawQuery → Result QueryCommand LineFault
checked raw = do
  tenant ← tenant_of raw.tenant
  start ← ok_or (stamp_of raw.start) BadStamp
  end ← end_of raw.end
  after ← behind_of raw.after
  Ok (record { tenant = tenant; text = raw.text; start = start; end = end; limit = raw.limit; order = raw.order; after = after; pages = raw.pages })

-- what a value with this command says
abbrev pub query_of : Data → Result QueryCommand LineFault
query_of d = raw_query d >>= checked
