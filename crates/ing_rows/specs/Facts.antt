-- What a verdict reads of a stream, and the same read off rows.
-- What names no section of the Loki documentation is own.
use Rattle.std.specs.Prelude.{ℕ, Bool, List, length, Option}
use Rattle.std.specs.Option.{option_map}
use Rattle.ing_rows.specs.declared.entry.Entry.{Entry}
use Rattle.ing_rows.specs.Rows.{StreamKey, Row, count_of, highest_of, last_of, has_stream, live_streams}

-- How many entries the stream has had accepted, their greatest stamp and the last of them; whether the stream is live,
-- and how many live streams its tenant has.
pub record Facts : Type 0 where
  pub count : ℕ
  pub greatest : ℕ
  pub last : Option Entry
  pub is_live : Bool
  pub live : ℕ

abbrev pub facts_of : List Row → StreamKey → Facts
facts_of rows s =
    let live = live_streams rows s.tenant in
    record {
      count = count_of rows s;
      greatest = highest_of rows s;
      last = option_map (λ r. r.entry) (last_of rows s);
      is_live = has_stream s live;
      live = length live;
    }
