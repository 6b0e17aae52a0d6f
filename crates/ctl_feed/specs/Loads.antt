-- Lines of text, as push commands of one stream.
use Rattle.std.specs.Prelude.{◌≡◌, ℕ, suc, ◌+◌, ◌^◌, ◌<◌, ◌≤◌, max, nat_lt, nat_le, List, [], ◌∷◌, ◌++◌, length, sum_by, Bool, true, false, ◌&&◌, if◌then◌else◌, Option, Some, None, unwrap_or, Result, Ok, Err}
use Rattle.std.specs.Str.Lossy.{utf8_lossy}
use Rattle.json.specs.Print.{quoted}
use Rattle.serde_json.specs.Written.{compact_text}
use Rattle.ing_refusals.specs.Results.{◌>>=◌}
use Rattle.ing_rows.specs.declared.entry.Entry.{Entry}
use Rattle.ctl_feed.specs.declared.load_fault.LoadFault.{LoadFault}
use Rattle.ctl_feed.specs.declared.load_fault.LoadFault.TheVariants.{TooLong, NoStamp}
use Rattle.ctl_feed.specs.Pushes.{Says, max_line, push_data, push_of, value_data}

-- ---- sizes, in bytes of JSON

-- how many values a command has at most
abbrev pub max_values : ℕ
max_values = 5000

-- how many bytes the values of a command have at most, and what stands around them has
abbrev pub max_bytes : ℕ
max_bytes = 8388608

-- what an entry takes among the values of a command: its line as a JSON text, and 25 for a stamp of 19 digits, quotes, brackets
-- and commas
abbrev pub size_of : Entry → ℕ
size_of entry = length (quoted entry.line) + 25

abbrev pub sizes_of : List Entry → ℕ
sizes_of entries = sum_by size_of entries

-- how many bytes the JSON text of an entry's value has
abbrev pub value_length : Entry → ℕ
value_length entry = length (compact_text (value_data entry))

-- what a command with no entry takes
abbrev pub head_size : List ℕ → ℕ → List (List ℕ × List ℕ) → ℕ
head_size tenant now labels = length (compact_text (push_data tenant now labels []))

-- ---- lines

-- lines for a tenant's stream, from a time in nanoseconds on: the stamp that the last line got, and the entries that wait for a
-- command
pub record Load : Type 0 where
  pub tenant : List ℕ
  pub now : ℕ
  pub labels : List (List ℕ × List ℕ)
  pub last : Option ℕ
  pub entries : List Entry

-- What a loader keeps true of its fields: the size is that of the entries, which fit into a command with what stands around.
pub record IsLoad (tenant : List ℕ) (now : ℕ) (labels : List (List ℕ × List ℕ)) (size : ℕ) (entries : List Entry) : Type 0 where
  pub size_is : size ≡ sizes_of entries
  pub small : size ≤ max_bytes
  pub few : length entries ≤ max_values
  pub head : head_size tenant now labels ≤ max_bytes

-- The stamp of a line of this time, if it has one: its time where that is above the stamp of the line before, and else a
-- nanosecond above that. The first line without a time has that of the load.
abbrev pub stamp_for : ℕ → Option ℕ → Option ℕ → ℕ
stamp_for now None time = unwrap_or time now
stamp_for now (Some last) time = max (suc last) (unwrap_or time 0)

-- the entry of a line of this time, with U+FFFD for what is no UTF-8
abbrev pub stamped : ℕ → List ℕ → Result Entry LoadFault
stamped stamp line = if nat_lt stamp (2 ^ 63) then Ok (record { stamp = stamp; line = utf8_lossy line }) else Err NoStamp

-- an entry that fits into a command by itself
abbrev pub sized : Entry → Result Entry LoadFault
sized entry = if nat_le (size_of entry) max_bytes then Ok entry else Err TooLong

-- the entry of a line of this time, behind one of the stamp last in a load that began at now; or why it has none
abbrev pub entry_at : ℕ → Option ℕ → Option ℕ → List ℕ → Result Entry LoadFault
entry_at now last time line = if nat_le (length line) max_bytes then stamped (stamp_for now last time) line >>= sized else Err TooLong

-- that of the next line of a load
abbrev pub entry_of : Load → Option ℕ → List ℕ → Result Entry LoadFault
entry_of load time line = entry_at load.now load.last time line

-- there is room for one more entry in the command
abbrev pub has_room : List Entry → Entry → Bool
has_room entries entry = nat_lt (length entries) max_values && nat_le (sizes_of entries + size_of entry) max_bytes

-- a line is the push of these entries, at least one, within the bounds of a command and of what the session takes
pub record IsCommand (line tenant : List ℕ) (now : ℕ) (labels : List (List ℕ × List ℕ)) (entries : List Entry) : Type 0 where
  pub says : Says line (push_of tenant now labels entries)
  pub some : 0 < length entries
  pub few : length entries ≤ max_values
  pub small : sizes_of entries ≤ max_bytes
  pub encoded : sum_by value_length entries ≤ max_bytes
  pub short : length line ≤ max_line

-- the push of the entries that wait
abbrev pub IsWaiting : Load → List ℕ → Type 0
IsWaiting load line = IsCommand line load.tenant load.now load.labels load.entries

-- Where there is no room for one more entry, those that wait are a command, and none waits any more.
abbrev pub MakesRoom : Load → Load → Entry → Option (List ℕ) → Type 0
MakesRoom old new entry None = (has_room old.entries entry ≡ true) × (new ≡ old)
MakesRoom old new entry (Some line) = (has_room old.entries entry ≡ false) × IsWaiting old line × (new ≡ record old { entries = [] })

-- one more entry waits
abbrev pub with_entry : Load → Entry → Load
with_entry load entry = record load { last = Some entry.stamp; entries = load.entries ++ entry ∷ [] }

-- room is made for one more entry, and it waits
abbrev pub Takes : Load → Load → Entry → Option (List ℕ) → Type 0
Takes old new entry command = (roomy : Load) × MakesRoom old roomy entry command × (new ≡ with_entry roomy entry)

-- None waits any more. Those that waited are a command, if there were any.
abbrev pub Finishes : Load → Load → Option (List ℕ) → Type 0
Finishes old new None = (old.entries ≡ []) × (new ≡ old)
Finishes old new (Some line) = IsWaiting old line × (new ≡ record old { entries = [] })
