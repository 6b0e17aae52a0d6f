-- What pushers note of the entries that were accepted, and when the rows of a shard are what was noted (own).
use Rattle.std.specs.Prelude.{◌≡◌, ℕ, ◌==◌, ◌<◌, Bool, ◌&&◌, List, [], ◌∷◌, ◌++◌, filter, length, map, Option, Some, None, IsPermutation, slice_get}
use Rattle.std.specs.Cmp.Lexicographic.{slice_cmp}
use Rattle.std.specs.Ordering.{is_lt, nat_cmp, ordering_then}
use Rattle.std.specs.declared.cmp.Ordering.{Ordering}
use Rattle.ing_rows.specs.declared.entry.Entry.{Entry}
use Rattle.ing_rows.specs.declared.verdict.Verdict.{Verdict}
use Rattle.ing_rows.specs.Rows.{StreamKey, Row, rows_of, same_stream}
use Rattle.ing_rows.specs.Placement.{shard_of}
use Rattle.ing_rows.specs.Verdicts.{accepted_number}
use Rattle.ing_chunk.specs.declared.numbered.Numbered.{Numbered}
use Rattle.ing_parts.specs.declared.found.Found.{Found}
use Rattle.ing_diary.specs.declared.settling.Amiss.{Amiss}
use Rattle.ing_diary.specs.declared.settling.Amiss.TheVariants.{Ours, Theirs}

-- an entry of a stream under its number
pub record Note : Type 0 where
  pub stream : StreamKey
  pub number : ℕ
  pub entry : Entry

-- a row without where it stands
abbrev pub note_of : Row → Note
note_of r = record { stream = r.stream; number = r.number; entry = r.entry }

-- what was read of an entry of a stream
abbrev pub note_of_found : StreamKey → Found → Note
note_of_found s f = record { stream = s; number = f.number; entry = f.entry }

abbrev pub note_of_numbered : StreamKey → Numbered → Note
note_of_numbered s e = record { stream = s; number = e.number; entry = e.entry }

-- the same without its stream
abbrev pub numbered_of : Found → Numbered
numbered_of f = record { number = f.number; entry = f.entry }

-- entries of one stream under their numbers
abbrev pub notes_of : StreamKey → List Numbered → List Note
notes_of s = map (note_of_numbered s)

-- an entry under the number that it was given, if it was given one
abbrev pub note_under : StreamKey → Entry → Option ℕ → List Note
note_under s e None = []
note_under s e (Some n) = record { stream = s; number = n; entry = e } ∷ []

-- the number that a verdict gives, if there is one
abbrev pub number_told : Option Verdict → Option ℕ
number_told None = None
number_told (Some v) = accepted_number v

-- what is noted of pushed entries: the accepted ones, in order, under the numbers of their verdicts
abbrev pub noted : StreamKey → List Entry → List Verdict → List Note
noted s [] vs = []
noted s (e ∷ es) [] = []
noted s (e ∷ es) (v ∷ vs) = note_under s e (accepted_number v) ++ noted s es vs

-- pushed entries of a stream
pub record Drafted : Type 0 where
  pub stream : StreamKey
  pub entries : List Entry

-- what is noted of a push that is under way, if one is
abbrev pub noted_of : Option Drafted → List Verdict → List Note
noted_of None vs = []
noted_of (Some push) vs = noted push.stream push.entries vs

-- all that was noted, and the push that is under way
pub record DiaryState : Type 0 where
  pub notes : List Note
  pub pending : Option Drafted

-- the rows, without where they stand, are exactly what was noted, each once
abbrev pub AreNoted : List Row → List Note → Type 0
AreNoted rows notes = IsPermutation (map note_of rows) notes

-- it is of a stream that has its place in this shard, of so many
abbrev pub is_in_shard : ℕ → ℕ → Note → Bool
is_in_shard shards shard n = shard_of n.stream.tenant n.stream.name shards == shard

-- it is of this number of this stream
abbrev pub is_note_at : StreamKey → ℕ → Note → Bool
is_note_at s number n = same_stream n.stream s && (n.number == number)

-- ---- what was read back

-- What was read of these: at each place as many as stand there, and over an honest end they themselves, each once.
pub record AreRead {K X : Type 0} (is_at : K → X → Bool) (honest : Type 0) (xs read : List X) : Type 0 where
  pub places : (k : K) → length (filter (is_at k) xs) ≡ length (filter (is_at k) read)
  pub exact : honest → IsPermutation xs read

abbrev pub has_number : ℕ → Numbered → Bool
has_number number e = e.number == number

abbrev pub has_place : StreamKey × ℕ → Note → Bool
has_place k = is_note_at k.0 k.1

-- notes of entries of which these were read
abbrev pub AreReadAs : Type 0 → List Note → List Note → Type 0
AreReadAs = AreRead has_place

-- of the rows of a stream
abbrev pub IsReadOf : Type 0 → Option StreamKey → List Row → List Note → Type 0
IsReadOf honest None rows notes = ⊥
IsReadOf honest (Some s) rows notes = AreReadAs honest (map note_of (rows_of s rows)) notes

-- Under each number of each stream stands a row exactly where it was noted, and as often: so none is missing, and none is there twice.
abbrev pub HaveNotedPlaces : List Row → List Note → Type 0
HaveNotedPlaces rows notes =
    (s : StreamKey) (number : ℕ) → length (filter (is_note_at s number) (map note_of rows)) ≡ length (filter (is_note_at s number) notes)

-- ---- what does not match

-- under this number of this stream the same entry stands exactly once in the one and in the other
pub record IsAlike (s : StreamKey) (number : ℕ) (xs ys : List Note) : Type 0 where
  pub entry : Entry
  pub one : filter (is_note_at s number) xs ≡ record { stream = s; number = number; entry = entry } ∷ []
  pub other : filter (is_note_at s number) ys ≡ record { stream = s; number = number; entry = entry } ∷ []

-- an entry of this number stands in the one or the other, and not the same entry exactly once in both
pub record IsUnlike (s : StreamKey) (number : ℕ) (xs ys : List Note) : Type 0 where
  pub stands : 0 < length (filter (is_note_at s number) (xs ++ ys))
  pub unlike : IsAlike s number xs ys → ⊥

-- where it is: in the one list, or in the other
abbrev pub amiss_in : List Note → List Note → Amiss → Option Note
amiss_in ours theirs (Ours place) = slice_get ours place
amiss_in ours theirs (Theirs place) = slice_get theirs place

-- there is one, and it has not its like
abbrev pub IsAmiss : List Note → List Note → Option Note → Type 0
IsAmiss ours theirs None = ⊥
IsAmiss ours theirs (Some note) = IsAlike note.stream note.number ours theirs → ⊥

-- ---- the order in which notes are compared

-- by tenant, then by name, both in byte order, then by number
abbrev pub note_cmp : Note → Note → Ordering
note_cmp n m =
    let by_tenant = slice_cmp nat_cmp n.stream.tenant m.stream.tenant in
    let by_name = slice_cmp nat_cmp n.stream.name m.stream.name in
    ordering_then by_tenant (ordering_then by_name (nat_cmp n.number m.number))

abbrev pub note_before : Note → Note → Bool
note_before n m = is_lt (note_cmp n m)
