-- What a query through the locks gives (Loki documentation: HTTP API, query range; own).
use Rattle.std.specs.Prelude.{◌≡◌, ◌<◌, ◌≤◌, ℕ, Bool, true, List, [], All, Some, filter, length, map, slice_get}
use Rattle.std.specs.List.{flat_map}
use Rattle.ing_labels.specs.Selectors.{Match}
use Rattle.ing_diary.specs.Found.{Found}
use Rattle.ing_diary.specs.Questions.{Question}
use Rattle.ing_diary.specs.Snapshot.{Snapshot}
use Rattle.ing_diary.specs.PartAnswers.{IsAnswer}
use Rattle.ing_diary.specs.Parts.{HasRangeOf, HasRows, KeepsInRange, found_at, standing, within}
use Rattle.ing_rows.specs.Gauges.{gauges_of}
use Rattle.ing_rows.specs.Placement.{shard_of}
use Rattle.ing_rows.specs.Rows.{Row, StreamKey}
use Rattle.ing_rows.specs.declared.gauges.Gauges.{Gauges}
use Rattle.ing_begun.specs.Catalog.{AddsCatalog, Asked, IsCatalog}
use Rattle.ing_begun.specs.Picked.{Picks}
use Rattle.ing_tally.specs.Books.{ShareState}
use Rattle.ing_flush.specs.Tallies.{amount_at}

-- the stream of this tenant and this name
abbrev pub key_named : List ℕ → List ℕ → StreamKey
key_named tenant name = record { tenant = tenant; name = name }

-- Each entry found is of a stream of the tenant that the matchers select; `picked` is any test that tells these from the others.
abbrev pub AreSelected : List ℕ → List Match → List Found → Type 0
AreSelected tenant ms found =
    (picked : StreamKey → Bool) → Picks tenant ms picked → All (λ f. picked (key_named tenant f.name) ≡ true) found

-- A snapshot of a shard for a question: it has exactly those of the shard's rows that the matchers select, as many as are told of it
-- stood there in all, and its range, order and limit are the question's; it keeps to the range, and what stands in it is selected.
pub record IsAskedOf {R : Type 0} (tenant : List ℕ) (ms : List Match) (q : Question) (s : Snapshot R) : Type 0 where
  pub rows : List Row
  pub count : s.front ≡ length rows
  pub has : (picked : StreamKey → Bool) → Picks tenant ms picked → HasRows (filter (λ r. picked r.stream) rows) s
  pub range : HasRangeOf q s
  pub order : s.best.order ≡ q.order
  pub limit : s.best.limit ≡ q.limit
  pub kept : KeepsInRange s
  pub selected : AreSelected tenant ms (standing s)

-- what is wanted of a shard's rows: those of picked streams that are in the question's range
abbrev pub wanted_of : (StreamKey → Bool) → Question → List Row → List Found
wanted_of picked q rows = within q (map found_at (filter (λ r. picked r.stream) rows))

-- Each shard had rows when it was looked at, as many as is told of it; the entries are the first ones, in the question's order, of all that
-- is wanted of them, at most so many.
pub record AreAnswerOf (tenant : List ℕ) (ms : List Match) (q : Question) (fronts : List ℕ) (found : List Found) : Type 0 where
  pub shards : List (List Row)
  pub counts : fronts ≡ map length shards
  pub answer : (picked : StreamKey → Bool) → Picks tenant ms picked
      → IsAnswer q.order q.limit (flat_map (wanted_of picked q) shards) found

-- each entry found is of a stream whose shard, of so many, is before this place
abbrev pub AreBelow : ℕ → List ℕ → ℕ → List Found → Type 0
AreBelow shards tenant place found = All (λ f. shard_of tenant f.name shards < place) found

-- each shard had at least as many entries as a pusher was told of
abbrev pub AreNoLess : List ShareState → List ℕ → Type 0
AreNoLess told fronts = (i : ℕ) (front : ℕ) → slice_get fronts i ≡ Some front → amount_at i told ≤ front

-- A shard had rows when it was looked at, as many as this at least, and what their streams tell came to texts.
abbrev pub LooksAt : Asked → ℕ → List (List ℕ) → List (List ℕ) → Type 0
LooksAt asked amount old new = (rows : List Row) × (amount ≤ length rows) × AddsCatalog asked rows old new

-- So many shards, from the first on, had rows when they were looked at, each at least as many as a pusher was told of; the texts are those
-- that all of them tell.
pub record AreToldBy (asked : Asked) (told : List ShareState) (count : ℕ) (texts : List (List ℕ)) : Type 0 where
  pub shards : List (List Row)
  pub all : length shards ≡ count
  pub no_less : AreNoLess told (map length shards)
  pub adds : AddsCatalog asked (flat_map (λ rows. rows) shards) [] texts

-- So many shards had rows when they were looked at, as `AreToldBy` says, and the texts are the catalog of all these rows.
pub record AreCatalogOf (asked : Asked) (told : List ShareState) (count : ℕ) (texts : List (List ℕ)) : Type 0 where
  pub shards : List (List Row)
  pub all : length shards ≡ count
  pub no_less : AreNoLess told (map length shards)
  pub lists : IsCatalog asked (flat_map (λ rows. rows) shards) texts

-- the gauges of the tenant over some rows; which rows is not said
abbrev pub AreGauges : List ℕ → Gauges → Type 0
AreGauges tenant gauges = (rows : List Row) × (gauges ≡ gauges_of rows tenant)
