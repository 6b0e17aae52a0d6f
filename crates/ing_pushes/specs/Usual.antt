-- What the reader of commands makes of a JSON value that has no fault.
use Rattle.std.specs.Prelude.{◌≡◌, ℕ, List, [], ◌∷◌, take, drop, codes, Some, false, Ok}
use Rattle.std.specs.List.{list_any, AllByRecursion}
use Rattle.std.specs.List.Sorted.{IsStrictlySortedBy}
use Rattle.std.specs.declared.cmp.Ordering.TheVariants.{Less}
use Rattle.std.specs.Ordering.{nat_cmp}
use Rattle.std.specs.Cmp.Lexicographic.{slice_cmp}
use Rattle.json.specs.Json as json
use Rattle.serde_json.specs.Data.{Data, string, array, object, Items, Members, no_members, member}
use Rattle.serde_json.specs.Read.{of_json, of_items, of_members}
use Rattle.ing_rows.specs.declared.entry.Entry.{Entry}
use Rattle.ing_commands.specs.Commands.{Push, said_by}
use Rattle.ing_commands.specs.PushCommands.{RawValue, RawStream, StreamEntries, PushCommand, raw_value, raw_labels, raw_stream, is_no_stamp, has_bad_value, entry_of, entries_of}

-- it is an entry
pub record IsEntry (j : json.Json) (e : Entry) : Type 0 where
  pub said : Data
  pub raw : RawValue
  pub read : of_json j ≡ Some said
  pub shape : raw_value said ≡ Ok raw
  pub bare : raw.has_metadata ≡ false
  pub timed : is_no_stamp raw.stamp ≡ false
  pub entry : entry_of raw ≡ e

-- the members are these labels
pub record AreLabels (ms : json.Members) (labels : List (List ℕ × List ℕ)) : Type 0 where
  pub said : Members
  pub read : of_members ms no_members ≡ Some said
  pub shape : raw_labels said ≡ Ok labels

-- the name lies below each of these
abbrev pub Under : List ℕ → List (List ℕ × List ℕ) → Type 0
Under name labels = AllByRecursion (λ label. slice_cmp nat_cmp name label.0 ≡ Less) labels

-- each of these lies below the name
abbrev pub Over : List ℕ → List (List ℕ × List ℕ) → Type 0
Over name labels = AllByRecursion (λ label. slice_cmp nat_cmp label.0 name ≡ Less) labels

-- each name lies below all behind it, in byte order
abbrev pub Rise : List (List ℕ × List ℕ) → Type 0
Rise labels = IsStrictlySortedBy (λ a b. slice_cmp nat_cmp a.0 b.0) labels

-- a label of this name goes there
pub record GoesAt (name : List ℕ) (labels : List (List ℕ × List ℕ)) (place : ℕ) : Type 0 where
  pub over : Over name (take place labels)
  pub under : Under name (drop place labels)

-- it is a stream with entries
pub record IsStream (j : json.Json) (s : StreamEntries) : Type 0 where
  pub said : Data
  pub raw : RawStream
  pub read : of_json j ≡ Some said
  pub shape : raw_stream said ≡ Ok raw
  pub bare : list_any (λ (v : RawValue). v.has_metadata) raw.values ≡ false
  pub timed : has_bad_value raw ≡ false
  pub stream : entries_of raw ≡ s

-- the members of a stream, in byte order of their names
abbrev pub stream_said : Members → Items → Data
stream_said labels values = object (member (codes "stream") (object labels) (member (codes "values") (array values) no_members))

-- the members are these, in either order
abbrev pub HasStream : json.Members → json.Members → json.Items → Type 0
HasStream ms labels values =
    (named : Members) (timed : Items) → of_members labels no_members ≡ Some named → of_items values ≡ Some timed
    → of_json (json.object ms) ≡ Some (stream_said named timed)

-- the members of a push, in byte order of their names
abbrev pub push_said : List ℕ → List ℕ → List ℕ → Items → Data
push_said cmd tenant now streams =
    object (member (codes "cmd") (string cmd)
    (member (codes "now") (string now)
    (member (codes "streams") (array streams)
    (member (codes "tenant") (string tenant) no_members))))

-- the members are these, in whatever order they stand
abbrev pub HasParts : json.Members → List ℕ → List ℕ → List ℕ → json.Items → Type 0
HasParts ms cmd tenant now streams =
    (said : Items) → of_items streams ≡ Some said → of_json (json.object ms) ≡ Some (push_said cmd tenant now said)

-- it commands this push
pub record IsPush (j : json.Json) (push : PushCommand) : Type 0 where
  pub said : Data
  pub read : of_json j ≡ Some said
  pub command : said_by said ≡ Ok (Push push)

-- each value is the one that stands in its place
abbrev pub Each : {A : Type 0} → (json.Json → A → Type 0) → List json.Json → List A → Type 0
Each R [] [] = Unit {0}
Each R [] (x ∷ xs) = ⊥
Each R (j ∷ js) [] = ⊥
Each R (j ∷ js) (x ∷ xs) = R j x × Each R js xs
