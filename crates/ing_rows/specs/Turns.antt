-- A push as judging by what is kept of a stream, then accepting in turn; and one stream's part of a state beside the rest.
-- What names no section of the Loki documentation is own.
use Rattle.std.specs.Prelude.{◌≡◌, ℕ, ◌+◌, ◌<◌, ◌≤◌, max, true, false, List, [], ◌∷◌, ◌++◌, All, filter, length, if◌then◌else◌, is_some, Some}
use Rattle.ing_rows.specs.declared.entry.Entry.{Entry}
use Rattle.ing_rows.specs.declared.rules.Rules.{Rules}
use Rattle.ing_rows.specs.declared.verdict.Verdict.{Verdict}
use Rattle.ing_rows.specs.Rows.{StreamKey, Row, Mark, State, same_stream, is_of_chunk, count_of, chunk_starts}
use Rattle.ing_rows.specs.Facts.{Facts}
use Rattle.ing_rows.specs.Verdicts.{verdict_by, accepted_number}
use Rattle.ing_rows.specs.Steps.{is_growing, is_mark_of}

-- the facts of a stream after one more entry is accepted
abbrev pub facts_with : Facts → Entry → Facts
facts_with facts e =
    record {
      count = facts.count + 1;
      greatest = max e.stamp facts.greatest;
      last = Some e;
      is_live = true;
      live = if facts.is_live then facts.live else facts.live + 1;
    }

-- the facts after an entry with this verdict
abbrev pub facts_after : Facts → Entry → Verdict → Facts
facts_after facts e v = if is_some (accepted_number v) then facts_with facts e else facts

-- the verdicts of entries that are judged one after another by the facts of their stream alone
abbrev pub verdicts_by : Rules → Facts → List Entry → List Verdict
verdicts_by rules facts [] = []
verdicts_by rules facts (e ∷ es) = let v = verdict_by rules facts e in v ∷ verdicts_by rules (facts_after facts e v) es

-- the entries that were given a number, in order
abbrev pub accepted_among : List Entry → List Verdict → List Entry
accepted_among [] vs = []
accepted_among (e ∷ es) [] = []
accepted_among (e ∷ es) (v ∷ vs) = if is_some (accepted_number v) then e ∷ accepted_among es vs else accepted_among es vs

-- the facts after all of them are accepted
abbrev pub facts_with_all : Facts → List Entry → Facts
facts_with_all facts [] = facts
facts_with_all facts (e ∷ es) = facts_with_all (facts_with facts e) es

-- ---- a part of a state beside the rest

abbrev pub beside : State → State → State
beside a b = record { rows = a.rows ++ b.rows; marks = a.marks ++ b.marks }

-- what the state has of the stream are sealed chunks that begin before this number
pub record IsOlder (s : StreamKey) (first : ℕ) (st : State) : Type 0 where
  pub rows : All (λ r. same_stream r.stream s ≡ true → r.chunk < first) st.rows
  pub marks : All (λ m. same_stream m.stream s ≡ true → m.chunk < first) st.marks
  pub sealed : All (λ m. is_growing s m ≡ false) st.marks

-- no row is of the chunk of a mark
abbrev pub NoneMarked : List Mark → List Row → Type 0
NoneMarked marks rows = All (λ m. All (λ r. is_of_chunk m.stream m.chunk r ≡ false) rows) marks

-- each chunk has at most one mark
abbrev pub OneMarkEach : List Mark → Type 0
OneMarkEach marks = (s : StreamKey) (chunk : ℕ) → length (filter (is_mark_of s chunk) marks) ≤ 1

-- each chunk has at most one mark, and begins with a number that its stream has had
pub record IsMarked (st : State) : Type 0 where
  pub one : OneMarkEach st.marks
  pub known : All (λ m. m.chunk < count_of st.rows m.stream) st.marks

-- a stream has as many chunks that begin with one of its rows as it has marks
abbrev pub BeginsWithMarks : StreamKey → State → Type 0
BeginsWithMarks s st = length (chunk_starts s st.rows) ≡ length (filter (λ m. same_stream m.stream s) st.marks)
