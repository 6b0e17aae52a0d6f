-- Push commands of one stream, and the lines that say them.
use Rattle.std.specs.Prelude.{◌≡◌, ◌==◌, ℕ, ◌^◌, nat_lt, List, [], ◌∷◌, map, codes, decimal, Bool, false, Ok}
use Rattle.std.specs.List.{list_any}
use Rattle.serde_json.specs.Data.{Data, string, array, object, item, no_items, member, no_members}
use Rattle.serde_json.specs.View.{items_of}
use Rattle.ing_rows.specs.declared.entry.Entry.{Entry}
use Rattle.ing_commands.specs.Commands.{Push, command_of}
use Rattle.ing_commands.specs.PushCommands.{PushCommand}
use Rattle.ctl_feed.specs.Labels.{labels_data}

-- entries of one stream, which has these labels
abbrev pub push_of : List ℕ → ℕ → List (List ℕ × List ℕ) → List Entry → PushCommand
push_of tenant now labels entries = record { tenant = tenant; now = now; streams = record { labels = labels; entries = entries } ∷ [] }

-- the time of an entry is a stamp: nanoseconds below 2^63
abbrev pub is_stamp : Entry → Bool
is_stamp entry = nat_lt entry.stamp (2 ^ 63)

-- how many bytes a line of input may have for the session, its line feed not counted
abbrev pub max_line : ℕ
max_line = 16777216

-- a line feed (10) stands in a text
abbrev pub has_feed : List ℕ → Bool
has_feed = list_any (λ byte. byte == 10)

-- a line says a push: the reader of commands takes it as that, and no line feed stands in it
pub record Says (line : List ℕ) (push : PushCommand) : Type 0 where
  pub read : command_of line ≡ Ok (Push push)
  pub one_line : has_feed line ≡ false

-- the JSON value of an entry: its stamp in digits, and its line
abbrev pub value_data : Entry → Data
value_data entry = array (item (string (decimal entry.stamp)) (item (string entry.line) no_items))

-- that of a push
abbrev pub push_data : List ℕ → ℕ → List (List ℕ × List ℕ) → List Entry → Data
push_data tenant now labels entries =
    object (member (codes "cmd") (string (codes "push")) (
    member (codes "now") (string (decimal now)) (
    member (codes "streams") (array (item (object (
    member (codes "stream") (labels_data labels) (
    member (codes "values") (array (items_of (map value_data entries))) no_members))) no_items)) (
    member (codes "tenant") (string tenant) no_members))))
