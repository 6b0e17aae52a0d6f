-- What is computed of a push is a chain of judged and placed entries, and adds the entries that it accepts.
use Rattle.std.proofs.Common.{◌≡◌, ℕ, Bool, true, false, cond, List, [], ◌∷◌, ◌++◌, map, reverse, refl, sym, ap, ◌∙◌, append_assoc, is_some, Some, None}
use Rattle.std.specs.Prelude.{Option}
use Rattle.std.proofs.lemmas.List.{reverse-append}
use Rattle.std.proofs.lemmas.List.Sorted.{IsPermutation-refl}
use Rattle.ing_rows.specs.declared.entry.Entry.{Entry}
use Rattle.ing_rows.specs.declared.place.Place.{Place}
use Rattle.ing_rows.specs.declared.rules.Rules.{Rules}
use Rattle.ing_rows.specs.declared.verdict.Verdict.TheVariants.{Accepted, Duplicate, LineTooLong, TooFarBehind, TooManyStreams}
use Rattle.ing_rows.specs.Rows.{StreamKey, Row, State, IsSame, count_of}
use Rattle.ing_rows.specs.Facts.{Facts, facts_of}
use Rattle.ing_rows.specs.Verdicts.{window_limit, verdict_by, verdict_of, accepted_number}
use Rattle.ing_rows.specs.Steps.{moved, in_head, chunk_for, added, cut, filled, accepted, Pushes, after_entry, after_push, verdicts_of}
use Rattle.ing_rows.specs.Kept.{Numbered, numbered}
use Rattle.ing_rows.specs.Events.{with_accepted, accepted_entries}

same_state : (st : State) → IsSame st st
same_state st = record { rows = IsPermutation-refl st.rows; marks = IsPermutation-refl st.marks }

pub pushes_computed : (rules : Rules) (s : StreamKey) (now : ℕ) (es : List Entry) (old : State) → Pushes rules s now es (verdicts_of rules s now es old) old (after_push rules s now es old)
pushes_computed rules s now [] old = same_state old
pushes_computed rules s now (e ∷ es) old =
    let after = after_entry rules s e now (verdict_of old.rows rules s e) old in
    (after, record { judged = refl; placed = same_state after }, pushes_computed rules s now es after)

-- ---- an accepted entry has the count as its number

numbers : (too_long behind again many : Bool) (limit live count : ℕ)
    → let number = accepted_number (cond too_long LineTooLong (cond behind (TooFarBehind limit) (cond again Duplicate (cond many (TooManyStreams live) (Accepted count))))) in
    number ≡ cond (is_some number) (Some count) None
numbers true behind again many limit live count = refl
numbers false true again many limit live count = refl
numbers false false true many limit live count = refl
numbers false false false true limit live count = refl
numbers false false false false limit live count = refl

pub number_is_count : (rules : Rules) (f : Facts) (e : Entry) → accepted_number (verdict_by rules f e) ≡ cond (is_some (accepted_number (verdict_by rules f e))) (Some f.count) None
number_is_count rules f e = numbers _ _ _ _ (window_limit f.greatest rules.max_chunk_age) f.live f.count

-- ---- the entries of the rows, whatever their places

abbrev all : State → List Numbered
all st = map numbered st.rows

moved_cond : (b : Bool) (place : Place) (r : Row) → numbered (cond b (record r { place = place }) r) ≡ numbered r
moved_cond true place r = refl
moved_cond false place r = refl

moved_shown : (test : Row → Bool) (place : Place) (rows : List Row) → map numbered (moved test place rows) ≡ map numbered rows
moved_shown test place [] = refl
moved_shown test place (r ∷ rows) = ap (λ n. n ∷ map numbered (moved test place rows)) (moved_cond (test r) place r) ∙ ap (λ ns. numbered r ∷ ns) (moved_shown test place rows)

all_cond : (b : Bool) (x y : State) (ns : List Numbered) → all x ≡ ns → all y ≡ ns → all (cond b x y) ≡ ns
all_cond true x y ns h k = h
all_cond false x y ns h k = k

all_cut : (rules : Rules) (s : StreamKey) (chunk : ℕ) (st : State) → all (cut rules s chunk st) ≡ all st
all_cut rules s chunk st = all_cond _ _ st (all st) (moved_shown (in_head s chunk) _ st.rows) refl

all_filled : (rules : Rules) (s : StreamKey) (chunk : ℕ) (st : State) → all (filled rules s chunk st) ≡ all st
all_filled rules s chunk st = all_cond _ _ st (all st) (moved_shown (in_head s chunk) _ st.rows) refl

module _ (rules : Rules) (s : StreamKey) (now : ℕ) where
  all_accepted : (e : Entry) (st : State) → all (accepted rules s e now st) ≡ record { stream = s; number = count_of st.rows s; entry = e } ∷ all st
  all_accepted e st = all_filled rules s (chunk_for st s) (cut rules s (chunk_for st s) (added st s e now)) ∙ all_cut rules s (chunk_for st s) (added st s e now)

  all_numbered : (e : Entry) (st : State) (b : Bool) → all (cond b (accepted rules s e now st) st) ≡ with_accepted s e (cond b (Some (count_of st.rows s)) None) [] ++ all st
  all_numbered e st true = all_accepted e st
  all_numbered e st false = refl

  all_entry : (e : Entry) (st : State) → let v = verdict_of st.rows rules s e in all (after_entry rules s e now v st) ≡ with_accepted s e (accepted_number v) [] ++ all st
  all_entry e st =
      let v = verdict_of st.rows rules s e in
      all_numbered e st (is_some (accepted_number v)) ∙ ap (λ n. with_accepted s e n [] ++ all st) (sym (number_is_count rules (facts_of st.rows s) e))

  turned : (e : Entry) (n : Option ℕ) (later ns : List Numbered) → reverse later ++ (with_accepted s e n [] ++ ns) ≡ reverse (with_accepted s e n later) ++ ns
  turned e None later ns = refl
  turned e (Some n) later ns =
      sym (append_assoc (reverse later) (record { stream = s; number = n; entry = e } ∷ []) ns) ∙ ap (λ l. l ++ ns) (sym (reverse-append (record { stream = s; number = n; entry = e } ∷ []) later))

  pub pushed_rows : (es : List Entry) (old : State)
      → map numbered (after_push rules s now es old).rows ≡ reverse (accepted_entries s es (verdicts_of rules s now es old)) ++ map numbered old.rows
  pushed_rows [] old = refl
  pushed_rows (e ∷ es) old =
      let v = verdict_of old.rows rules s e in
      let later = accepted_entries s es (verdicts_of rules s now es (after_entry rules s e now v old)) in
      pushed_rows es (after_entry rules s e now v old) ∙ ap (λ l. reverse later ++ l) (all_entry e old) ∙ turned e (accepted_number v) later (map numbered old.rows)
