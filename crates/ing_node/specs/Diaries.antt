-- What the pushers of one ingester note, and when the shards are what was noted (own).
use Rattle.std.specs.Prelude.{◌≡◌, ◌++◌, ℕ, true, List, [], Option, Some, None, is_some, filter, slice_get}
use Rattle.std.specs.List.{flat_map}
use Rattle.std.specs.Option.{option_map}
use Rattle.ing_rows.specs.declared.entry.Entry.{Entry}
use Rattle.ing_rows.specs.Rows.{Row, StreamKey}
use Rattle.ing_tally.specs.Books.{ShareState}
use Rattle.ing_diary.specs.Fronts.{rows_since}
use Rattle.ing_diary.specs.Notes.{AreNoted, DiaryState, HaveNotedPlaces, Note, is_in_shard}
use Rattle.ing_diary.specs.Faults.{NamesOther}
use Rattle.ing_node.specs.declared.report.CloseRefusal.{CloseRefusal}
use Rattle.ing_node.specs.declared.report.CloseRefusal.TheVariants.{Unsettled}

-- the shares of a pusher, shard by shard, and what it noted, where it keeps a diary
pub record PusherState : Type 0 where
  pub told : List ShareState
  pub diary : Option (List Note)

-- what stands in a diary
abbrev pub notes_in : Option DiaryState → Option (List Note)
notes_in = option_map (λ d. d.notes)

-- with these notes more
abbrev pub with_notes : List Note → Option (List Note) → Option (List Note)
with_notes more = option_map (λ notes. notes ++ more)

-- where a diary is kept, a push of these entries is under way
abbrev pub IsBegun : StreamKey → List Entry → Option DiaryState → Type 0
IsBegun s entries None = Unit {0}
IsBegun s entries (Some d) = d.pending ≡ Some (record { stream = s; entries = entries })

-- what is noted, in a diary that is kept
abbrev pub notes_kept : Option (List Note) → List Note
notes_kept None = []
notes_kept (Some notes) = notes

-- what pushers have noted of one of so many shards
abbrev pub notes_at : ℕ → ℕ → List PusherState → List Note
notes_at shards shard = flat_map (λ p. filter (is_in_shard shards shard) (notes_kept p.diary))

-- each of them keeps a diary
abbrev pub KeepsDiary : PusherState → Type 0
KeepsDiary p = is_some p.diary ≡ true

-- Of each shard the rows that came since its streams had so many entries, without where they stand, are exactly what was noted of it, each
-- once; the rows are read off what stands at its place.
abbrev pub HaveNoted : {H : Type 0} → (H → List Row) → (ℕ → StreamKey → ℕ) → (ℕ → List Note) → List H → Type 0
HaveNoted {H = H} rows_in had notes shards =
    (i : ℕ) (shard : H) → slice_get shards i ≡ Some shard → AreNoted (rows_since (had i) (rows_in shard)) (notes i)

-- and whatever the store gave, each of them stands under its number exactly where it was noted
abbrev pub HaveNotedEach : {H : Type 0} → (H → List Row) → (ℕ → StreamKey → ℕ) → (ℕ → List Note) → List H → Type 0
HaveNotedEach {H = H} rows_in had notes shards =
    (i : ℕ) (shard : H) → slice_get shards i ≡ Some shard → HaveNotedPlaces (rows_since (had i) (rows_in shard)) (notes i)

-- what is told of a shard, if it is that an entry differs, is so: it is one of these shards, and the entry stands among its rows that came
-- since or among what was noted of it, and not exactly once and alike in both
abbrev pub NamesOtherIn : {H : Type 0} → (H → List Row) → (ℕ → StreamKey → ℕ) → (ℕ → List Note) → List H → CloseRefusal → Type 0
NamesOtherIn {H = H} rows_in had notes shards (Unsettled i why) =
    (shard : H) × (slice_get shards i ≡ Some shard) × NamesOther (rows_since (had i) (rows_in shard)) (notes i) why
NamesOtherIn rows_in had notes shards _ = Unit {0}
