-- Listed streams: what a selector picks of them, and where their labels stand. All of it is own.
use Rattle.std.specs.Prelude.{ℕ, Bool, false, ◌==◌, ◌&&◌, List, map, filter}
use Rattle.std.specs.List.{list_any, enumerate_from, flat_map, slice_get}
use Rattle.std.specs.Option.{option_map_or}
use Rattle.std.specs.Str.{bytes_eq}
use Rattle.std.specs.FinMap.{entries}
use Rattle.ing_labels.specs.Labels.{LabelMap, Pair}
use Rattle.ing_labels.specs.Selectors.{Match, match_holds, selects}
use Rattle.ing_postings.specs.declared.postings.Listed.{Listed}

-- the numbers of streams, in their order
abbrev pub numbers_of : List Listed → List ℕ
numbers_of = map (λ s. s.number)

-- the streams that a selector of these matchers picks, in their order
abbrev pub selected : List Match → List Listed → List Listed
selected ms = filter (λ s. selects ms s.labels)

-- the matcher picks the stream at this place
abbrev pub picks_at : List Listed → Match → ℕ → Bool
picks_at streams m place = option_map_or (λ s. match_holds s.labels m) (slice_get streams place) false

-- the place is in the list
abbrev pub is_in : ℕ → List ℕ → Bool
is_in place = list_any (λ p. p == place)

-- the pair is this name with this value
abbrev pub is_pair : List ℕ → List ℕ → Pair → Bool
is_pair name value e = bytes_eq e.0 name && bytes_eq e.1 value

-- a label of the map is this name with this value
abbrev pub has_label : List ℕ → List ℕ → LabelMap → Bool
has_label name value m = list_any (is_pair name value) (entries m)

-- the places, counted from 0, of the streams with this label
abbrev pub places_of : List ℕ → List ℕ → List Listed → List ℕ
places_of name value streams =
    map (λ e. e.0) (filter (λ e. has_label name value e.1.labels) (enumerate_from 0 streams))

-- a label of a stream: its name and value, and the number of the stream
pub record Posting : Type 0 where
  pub name : List ℕ
  pub value : List ℕ
  pub number : ℕ

-- the postings of streams: one for each label of each stream
abbrev pub postings_of : List Listed → List Posting
postings_of = flat_map (λ s. map (λ e. record { name = e.0; value = e.1; number = s.number }) (entries s.labels))

-- the numbers of the postings with this name and this value
abbrev pub posted : List ℕ → List ℕ → List Posting → List ℕ
posted name value ps = map (λ p. p.number) (filter (λ p. bytes_eq p.name name && bytes_eq p.value value) ps)
