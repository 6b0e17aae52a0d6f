-- What a reply to a query has (own).
use Rattle.std.specs.Prelude.{ℕ, List, [], ◌∷◌, codes, Option, Some, None, option_and_then, Result, Ok}
use Rattle.std.specs.Option.{ok_or}
use Rattle.serde_json.specs.Data.{Data, Items, no_items, item}
use Rattle.serde_json.specs.Find.{get, as_str, as_array, as_number, as_u64}
use Rattle.ing_refusals.specs.Results.{◌>>=◌}
use Rattle.ing_rows.specs.Cursors.{Cursor}
use Rattle.ing_rows.specs.Texts.{stamp_of}
use Rattle.ctl_pages.specs.declared.fault.ReplyFault.{ReplyFault}
use Rattle.ctl_pages.specs.declared.fault.ReplyFault.TheVariants.{NoAnswer}
use Rattle.ctl_pages.specs.declared.told.Told.{Told}

-- the member of this name, a text; other members are ignored
abbrev pub text_at : List ℕ → Data → Result (List ℕ) ReplyFault
text_at name d = ok_or (option_and_then as_str (get name d)) NoAnswer

-- the number that a value is, an integer from 0 to 2^64-1
abbrev pub number_of : Data → Option ℕ
number_of d = option_and_then as_u64 (as_number d)

-- the same as `text_at`, such a number
abbrev pub number_at : List ℕ → Data → Result ℕ ReplyFault
number_at name d = ok_or (option_and_then number_of (get name d)) NoAnswer

-- an entry: its line, its stamp and the canonical name of its stream
abbrev pub told_in : Data → Result Told ReplyFault
told_in d = do
  line ← text_at (codes "line") d
  digits ← text_at (codes "stamp") d
  stamp ← ok_or (stamp_of digits) NoAnswer
  stream ← text_at (codes "stream") d
  Ok (record { stream = stream; stamp = stamp; line = line })

-- the elements of the member `entries` of the member `query`
abbrev pub entries_in : Data → Result Items ReplyFault
entries_in d =
    let entries = option_and_then (get (codes "entries")) (get (codes "query") d) in
    ok_or (option_and_then as_array entries) NoAnswer

-- what the elements are, if each is an entry
abbrev pub each_told : Items → Result (List Told) ReplyFault
each_told no_items = Ok []
each_told (item d ds) = do
  first ← told_in d
  others ← each_told ds
  Ok (first ∷ others)

-- the entries of a reply
abbrev pub page_in : Data → Result (List Told) ReplyFault
page_in d = entries_in d >>= each_told

-- the place of an entry: its number, its stamp and the canonical name of its stream
abbrev pub place_in : Data → Result Cursor ReplyFault
place_in d = do
  number ← number_at (codes "number") d
  digits ← text_at (codes "stamp") d
  stamp ← ok_or (stamp_of digits) NoAnswer
  stream ← text_at (codes "stream") d
  Ok (record { stamp = stamp; stream = stream; number = number })

abbrev pub maybe_place : Option Data → Result (Option Cursor) ReplyFault
maybe_place None = Ok None
maybe_place (Some d) = place_in d >>= λ place. Ok (Some place)

-- the place behind which the next page begins: the member `next` of the member `query`, which may
-- be absent
abbrev pub next_in : Data → Result (Option Cursor) ReplyFault
next_in d = do
  query ← ok_or (get (codes "query") d) NoAnswer
  maybe_place (get (codes "next") query)
