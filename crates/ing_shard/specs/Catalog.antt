-- Catalogs: what the streams of a tenant tell of themselves (Loki documentation: HTTP API, list series, list labels, list the values of
-- a label; own).
use Rattle.std.specs.Prelude.{◌≡◌, ℕ, Bool, not, ◌&&◌, ◌||◌, ◌==◌, List, [], Option, Some, None, bytes_eq, length}
use Rattle.std.specs.Borrow.{Bor}
use Rattle.std.specs.FinMap.{entries}
use Rattle.std.specs.List.{list_any}
use Rattle.std.specs.List.Sorted.{IsStrictlySortedBy}
use Rattle.ing_labels.specs.Canonical.{canonical_of}
use Rattle.ing_labels.specs.Labels.{LabelMap, IsLabelSet, is_named, name_order}
use Rattle.ing_labels.specs.LabelValues.{label_value}
use Rattle.ing_labels.specs.Selectors.{Match, selects}
use Rattle.ing_rows.specs.Facets.{Facet, Series, Labels, Values, facet_view}
use Rattle.ing_rows.specs.Rows.{Row, StreamKey}
use Rattle.ing_shard.specs.Contents.{stream_of}
use Rattle.ing_shard.specs.declared.catalog.Asked as code

-- this facet of those streams of a tenant whose labels the matchers select
pub record Asked : Type 0 where
  pub tenant : List ℕ
  pub ms : List Match
  pub facet : Facet

-- the matchers of a selector; without one there is none, and all labels are selected
abbrev pub matchers_in : Option (Bor (List Match)) → List Match
matchers_in None = []
matchers_in (Some selector) = selector.now

abbrev pub asked_view : code.Asked → Asked
asked_view asked = record { tenant = asked.tenant.now; ms = matchers_in asked.selector; facet = facet_view asked.facet }

-- Labels tell a text: it is their canonical name, the name of one of them, or the value of the one of this name, which is not empty.
abbrev pub tells : Facet → LabelMap → List ℕ → Bool
tells Series m text = bytes_eq (canonical_of m) text
tells Labels m text = is_named text (entries m)
tells (Values name) m text = bytes_eq (label_value m name) text && not (length text == 0)

-- the streams that tell a text which is asked for, however these are told from the others, by tenant and labels
abbrev pub Tells : Asked → List ℕ → (StreamKey → Bool) → Type 0
Tells asked text told =
    (t : List ℕ) (m : LabelMap) → IsLabelSet m → told (stream_of t m) ≡ (bytes_eq t asked.tenant && (selects asked.ms m && tells asked.facet m text))

-- the text is one of these
abbrev pub is_among : List ℕ → List (List ℕ) → Bool
is_among text texts = list_any (λ t. bytes_eq text t) texts

-- one of these rows is of a stream that tells it
abbrev pub some_tells : (StreamKey → Bool) → List Row → Bool
some_tells told rows = list_any (λ (r : Row). told r.stream) rows

-- The catalog of rows: of the texts that are asked for exactly those that the stream of some row tells, each once, in byte order.
pub record IsCatalog (asked : Asked) (rows : List Row) (texts : List (List ℕ)) : Type 0 where
  pub rising : IsStrictlySortedBy name_order texts
  pub exact : (text : List ℕ) (told : StreamKey → Bool) → Tells asked text told → is_among text texts ≡ some_tells told rows

-- those of these rows come to others
abbrev pub AddsCatalog : Asked → List Row → List (List ℕ) → List (List ℕ) → Type 0
AddsCatalog asked rows old new =
    (text : List ℕ) (told : StreamKey → Bool) → Tells asked text told → is_among text new ≡ (some_tells told rows || is_among text old)

-- for private clauses: the stream has an entry among the rows, and tells a text
abbrev pub tells_here : (StreamKey → Bool) → (StreamKey → ℕ) → StreamKey → Bool
tells_here told count s = not (count s == 0) && told s
