-- Posting lists by name and value, as the index holds them. All of it is own.
use Rattle.std.specs.Prelude.{◌≡◌, ◌≤◌, ℕ, Bool, true, false, nat_lt, IsTrue, List, [], length, Vec, vec_len, vec_capacity}
use Rattle.std.specs.Option.{option_map_or}
use Rattle.std.specs.BTreeMap.{BTreeMap, get_by_text}
use Rattle.std.specs.declared.alloc.Global.{Global}
use Rattle.std.specs.List.{list_any}
use Rattle.ing_labels.specs.Labels.{Pair}
use Rattle.ing_labels.specs.Selectors.{Match, asks_for_value}
use Rattle.ing_postings.specs.Streams.{is_pair, places_of}
use Rattle.ing_postings.specs.declared.postings.Listed.{Listed}
use Rattle.std.specs.declared.string.String.{String}

-- the lists of the values of one name
abbrev pub Lists : Type 0
Lists = BTreeMap (String Global) (Vec ℕ Global)

-- the lists of all names
abbrev pub Index : Type 0
Index = BTreeMap (String Global) Lists

-- the list of a value: no list is an empty one
abbrev pub list_of : Lists → List ℕ → List ℕ
list_of lists value = option_map_or (λ l. l.items) (get_by_text lists value) []

-- the list of a name and a value
abbrev pub list_at : Index → List ℕ → List ℕ → List ℕ
list_at index name value = option_map_or (λ lists. list_of lists value) (get_by_text index name) []

-- the value has a list, and it takes one more place without memory
abbrev pub has_room_in : Lists → List ℕ → Bool
has_room_in lists value = option_map_or (λ l. nat_lt (vec_len l) (vec_capacity l)) (get_by_text lists value) false

-- the same of a name and a value
abbrev pub has_room : Index → List ℕ → List ℕ → Bool
has_room index name value = option_map_or (λ lists. has_room_in lists value) (get_by_text index name) false

-- each of these pairs of a name and a value has a list with room
abbrev pub HasRooms : Index → List Pair → Type 0
HasRooms index pairs = (name value : List ℕ) → IsTrue (list_any (is_pair name value) pairs) → IsTrue (has_room index name value)

-- the matcher is `=` with a value, and the list is that of its name and value
abbrev pub Narrows : Index → List ℕ → Match → Type 0
Narrows index list m =
    (asks_for_value m ≡ true) × (list ≡ list_at index m.name m.value)

-- the list is no longer than the one of the matcher, if it is `=` with a value
abbrev pub IsNoLonger : Index → List ℕ → Match → Type 0
IsNoLonger index list m =
    asks_for_value m ≡ true → length list ≤ length (list_at index m.name m.value)

-- each list is that of the streams with the label
abbrev pub IsIndexOf : Index → List Listed → Type 0
IsIndexOf index streams = (name value : List ℕ) → list_at index name value ≡ places_of name value streams
