-- How many entries the streams of a shard had at a moment, and which entries came since then (own).
use Rattle.std.specs.Prelude.{◌≡◌, ℕ, Bool, nat_le, List, [], ◌∷◌, All, filter, if◌then◌else◌}
use Rattle.std.specs.Cmp.Lexicographic.{slice_cmp}
use Rattle.std.specs.List.Sorted.{IsSortedBy}
use Rattle.std.specs.Ordering.{is_lt, nat_cmp, ordering_then}
use Rattle.std.specs.declared.cmp.Ordering.{Ordering}
use Rattle.ing_rows.specs.Rows.{Row, StreamKey, same_stream}
use Rattle.ing_chunk.specs.declared.numbered.Numbered.{Numbered}
use Rattle.ing_shard.specs.declared.listed.StreamFront.{StreamFront}
use Rattle.ing_diary.specs.Notes.{Note}

abbrev pub stream_of : StreamFront → StreamKey
stream_of f = record { tenant = f.tenant; name = f.name }

-- how many entries a stream had; none where it is not there
abbrev pub front_in : List StreamFront → StreamKey → ℕ
front_in [] s = 0
front_in (f ∷ fs) s = if same_stream (stream_of f) s then f.front else front_in fs s

-- the entry came later than so many of each stream
abbrev pub came_since : (StreamKey → ℕ) → Row → Bool
came_since had r = nat_le (had r.stream) r.number

-- and so did one of a stream that had so many
abbrev pub is_from : ℕ → Numbered → Bool
is_from front e = nat_le front e.number

abbrev pub note_is_from : ℕ → Note → Bool
note_is_from front n = nat_le front n.number

-- the rows of the entries that did
abbrev pub rows_since : (StreamKey → ℕ) → List Row → List Row
rows_since had = filter (came_since had)

-- ---- the order in which they are looked up

-- by tenant, then by name, both in byte order
abbrev pub stream_cmp : StreamKey → StreamKey → Ordering
stream_cmp s t = ordering_then (slice_cmp nat_cmp s.tenant t.tenant) (slice_cmp nat_cmp s.name t.name)

abbrev pub front_before : StreamFront → StreamFront → Bool
front_before f g = is_lt (stream_cmp (stream_of f) (stream_of g))

-- in that order, and a stream that stands there twice has one front
pub record AreFronts (fs : List StreamFront) : Type 0 where
  pub sorted : IsSortedBy front_before fs
  pub one : All (λ f. front_in fs (stream_of f) ≡ f.front) fs
