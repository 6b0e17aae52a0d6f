-- The command that pushes entries: its shape, the faults of what it says in their order, and what it says.
use Rattle.std.specs.Prelude.{ℕ, List, [], ◌∷◌, map, codes, Bool, true, false, not, ◌||◌, if◌then◌else◌, is_none, unwrap_or, Result, Ok, Err}
use Rattle.std.specs.Option.{ok_or}
use Rattle.std.specs.List.{list_any}
use Rattle.serde_json.specs.Data.{Data, Items, no_items, item, Members, no_members, member}
use Rattle.serde_json.specs.Find.{as_array}
use Rattle.ing_refusals.specs.Results.{◌>>=◌}
use Rattle.ing_rows.specs.declared.entry.Entry.{Entry}
use Rattle.ing_rows.specs.Texts.{is_tenant, stamp_of}
use Rattle.ing_commands.specs.declared.fault.LineFault.{LineFault}
use Rattle.ing_commands.specs.declared.fault.LineFault.TheVariants.{BadCommand, Metadata, BadTenant, BadStamp}
use Rattle.ing_commands.specs.Shapes.{text_of, text_at, array_at, object_at, each}

-- the texts of a value, and whether a third element stands behind them
pub record RawValue : Type 0 where
  pub stamp : List ℕ
  pub line : List ℕ
  pub has_metadata : Bool

-- the labels of a stream, as pairs of name and value in byte order of names, and its values
pub record RawStream : Type 0 where
  pub labels : List (List ℕ × List ℕ)
  pub values : List RawValue

-- the texts of a push
pub record RawPush : Type 0 where
  pub tenant : List ℕ
  pub now : List ℕ
  pub streams : List RawStream

-- ---- the shape

-- two elements that are texts
abbrev pub raw_texts : Data → Data → Bool → Result RawValue LineFault
raw_texts stamp line has_metadata = do
  stamp ← text_of stamp
  line ← text_of line
  Ok (record { stamp = stamp; line = line; has_metadata = has_metadata })

-- elements that are two texts, or three of which the first two are texts
abbrev pub raw_elements : Items → Result RawValue LineFault
raw_elements (item stamp (item line no_items)) = raw_texts stamp line false
raw_elements (item stamp (item line (item metadata no_items))) = raw_texts stamp line true
raw_elements no_items = Err BadCommand
raw_elements (item d no_items) = Err BadCommand
raw_elements (item d (item e (item f (item g ds)))) = Err BadCommand

-- an array of such elements
abbrev pub raw_value : Data → Result RawValue LineFault
raw_value d = ok_or (as_array d) BadCommand >>= raw_elements

-- members that are all texts
abbrev pub raw_labels : Members → Result (List (List ℕ × List ℕ)) LineFault
raw_labels no_members = Ok []
raw_labels (member name d ms) = do
  value ← text_of d
  others ← raw_labels ms
  Ok ((name, value) ∷ others)

-- an object with `stream` and `values`
unfoldable pub raw_stream : Data → Result RawStream LineFault
raw_stream d = do
  members ← object_at (codes "stream") d
  labels ← raw_labels members
  items ← array_at (codes "values") d
  values ← each raw_value items
  Ok (record { labels = labels; values = values })

-- an object with the members of a push
unfoldable pub raw_push : Data → Result RawPush LineFault
raw_push d = do
  tenant ← text_at (codes "tenant") d
  now ← text_at (codes "now") d
  items ← array_at (codes "streams") d
  streams ← each raw_stream items
  Ok (record { tenant = tenant; now = now; streams = streams })

-- the entries that one stream is to take
pub record StreamEntries : Type 0 where
  pub labels : List (List ℕ × List ℕ)
  pub entries : List Entry

-- a push: for this tenant, at this time in nanoseconds, these entries of each stream
pub record PushCommand : Type 0 where
  pub tenant : List ℕ
  pub now : ℕ
  pub streams : List StreamEntries

-- ---- the faults, in their order

-- a value has a third element
abbrev pub has_metadata : RawPush → Bool
has_metadata push = list_any (λ (s : RawStream). list_any (λ (v : RawValue). v.has_metadata) s.values) push.streams

-- a text is no stamp
abbrev pub is_no_stamp : List ℕ → Bool
is_no_stamp text = is_none (stamp_of text)

-- the time of a value of the stream is no stamp
abbrev pub has_bad_value : RawStream → Bool
has_bad_value s = list_any (λ (v : RawValue). is_no_stamp v.stamp) s.values

-- the time of the push, or that of a value, is no stamp
abbrev pub has_bad_stamp : RawPush → Bool
has_bad_stamp push = is_no_stamp push.now || list_any has_bad_value push.streams

-- ---- what the texts say, where there is no fault

-- the time that a stamp is, in nanoseconds
abbrev pub time_of : List ℕ → ℕ
time_of text = unwrap_or (stamp_of text) 0

-- the entry of a value
abbrev pub entry_of : RawValue → Entry
entry_of v = record { stamp = time_of v.stamp; line = v.line }

-- the labels and the entries of a stream
abbrev pub entries_of : RawStream → StreamEntries
entries_of s = record { labels = s.labels; entries = map entry_of s.values }

-- the push that the texts say
abbrev pub push_said_by : RawPush → PushCommand
push_said_by push = record { tenant = push.tenant; now = time_of push.now; streams = map entries_of push.streams }

-- metadata is not taken, then the tenant, then the stamps
abbrev pub checked : RawPush → Result PushCommand LineFault
checked push =
    if has_metadata push then Err Metadata else (
    if not (is_tenant push.tenant) then Err BadTenant else (
    if has_bad_stamp push then Err BadStamp else Ok (push_said_by push)))

-- what a value with this command says
abbrev pub push_of : Data → Result PushCommand LineFault
push_of d = raw_push d >>= checked
