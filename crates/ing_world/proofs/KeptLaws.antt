-- What the steps of a shard keep: a state is sound, and its rows without chunk, block and place are what was accepted.
use Rattle.std.proofs.Common.{◌≡◌, ℕ, Bool, true, false, cond, List, [], ◌∷◌, ◌++◌, append-nil, map, reverse, refl, ap, sym, ◌∙◌, subst, Option, Some, None, arith}
use Rattle.std.specs.Prelude.{IsPermutation}
use Rattle.std.proofs.lemmas.List.{append_assoc}
use Rattle.std.proofs.lemmas.List.Sorted.{IsPermutation-append_comm, IsPermutation-append_left, length_permutation, IsPermutation-map, IsPermutation-refl, IsPermutation-sym, IsPermutation-trans}
use Rattle.ing_rows.specs.declared.entry.Entry.{Entry}
use Rattle.ing_rows.specs.declared.place.Place.{Place}
use Rattle.ing_rows.specs.declared.rules.Rules.{Rules}
use Rattle.ing_rows.specs.declared.verdict.Verdict.{Verdict}
use Rattle.ing_rows.specs.Events.{accepted_entries, with_accepted}
use Rattle.ing_rows.specs.Kept.{Numbered, numbered}
use Rattle.ing_rows.specs.Rows.{StreamKey, Row, State, IsSame, empty_state}
use Rattle.ing_rows.specs.Sound.{IsSound}
use Rattle.ing_rows.specs.Steps.{Pushes, after_entry, after_push, moved, verdicts_of}
use Rattle.ing_rows.specs.Verdicts.{accepted_number}

pub same_back : (a b : State) → IsSame a b → IsSame b a
same_back a b is = record { rows = IsPermutation-sym a.rows b.rows is.rows; marks = IsPermutation-sym a.marks b.marks is.marks }

-- what has no elements in some order has none
nothing_left : {X : Type 0} (xs : List X) → IsPermutation xs [] → xs ≡ []
nothing_left [] is = refl
nothing_left (x ∷ xs) is = absurd (omega (arith, length_permutation (x ∷ xs) [] is))

pub emptied : (st : State) → IsSame st empty_state → st ≡ empty_state
emptied st is =
    ap (λ rows. record { rows = rows; marks = st.marks }) (nothing_left st.rows is.rows)
    ∙ ap (λ marks. record { rows = []; marks = marks }) (nothing_left st.marks is.marks)

-- what stands is what was accepted, also where it moved
moved_cond : (b : Bool) (place : Place) (r : Row) → numbered (cond b (record r { place = place }) r) ≡ numbered r
moved_cond true place r = refl
moved_cond false place r = refl

moved_rows : (test : Row → Bool) (place : Place) (rows : List Row) → map numbered (moved test place rows) ≡ map numbered rows
moved_rows test place [] = refl
moved_rows test place (r ∷ rows) = ap (λ n. n ∷ map numbered (moved test place rows)) (moved_cond (test r) place r) ∙ ap (λ ns. numbered r ∷ ns) (moved_rows test place rows)

pub keeps_same : (old new : List Row) (all : List Numbered) → IsPermutation new old → IsPermutation (map numbered old) all → IsPermutation (map numbered new) (all ++ [])
keeps_same old new all same kept =
    subst (IsPermutation (map numbered new)) (sym (append-nil all))
    (IsPermutation-trans (map numbered new) (map numbered old) all (IsPermutation-map numbered new old same) kept)

pub keeps_moved : (test : Row → Bool) (place : Place) (old new : List Row) (all : List Numbered) → IsPermutation new (moved test place old) → IsPermutation (map numbered old) all
    → IsPermutation (map numbered new) (all ++ [])
keeps_moved test place old new all same kept = keeps_same (moved test place old) new all same (subst (λ l. IsPermutation l all) (sym (moved_rows test place old)) kept)

pub keeps_none : (st : State) → st ≡ empty_state → IsPermutation (map numbered st.rows) []
keeps_none st is = subst (λ s. IsPermutation (map numbered s.rows) []) (sym is) (IsPermutation-refl [])

-- a push: one entry after another
one_turned : (s : StreamKey) (e : Entry) (n : Option ℕ) → reverse (with_accepted s e n []) ≡ with_accepted s e n []
one_turned s e None = refl
one_turned s e (Some n) = refl

one_first : (s : StreamKey) (e : Entry) (n : Option ℕ) (all later : List Numbered) → (all ++ with_accepted s e n []) ++ later ≡ all ++ with_accepted s e n later
one_first s e None all later = ap (λ l. l ++ later) (append-nil all)
one_first s e (Some n) all later = append_assoc all (with_accepted s e (Some n) []) later

module _ (sound_push : (rules : Rules) (s : StreamKey) (now : ℕ) (es : List Entry) (old : State) → IsSound old → IsSound (after_push rules s now es old))
    (sound_order : (a b : State) → IsSound a → IsSame a b → IsSound b) where
  pub sound_as : (a b : State) → IsSound b → IsSame a b → IsSound a
  sound_as a b sound same = sound_order b a sound (same_back a b same)

  pub pushed_sound : (rules : Rules) (s : StreamKey) (now : ℕ) (es : List Entry) (vs : List Verdict) (old new : State) → Pushes rules s now es vs old new → IsSound old → IsSound new
  pushed_sound rules s now [] [] old new is sound = sound_as new old sound is
  pushed_sound rules s now [] (v ∷ vs) old new is sound = absurd is
  pushed_sound rules s now (e ∷ es) [] old new is sound = absurd is
  pushed_sound rules s now (e ∷ es) (v ∷ vs) old new (mid, entry, rest) sound =
      pushed_sound rules s now es vs mid new rest
      (sound_as mid (after_push rules s now (e ∷ []) old) (sound_push rules s now (e ∷ []) old sound)
      (subst (λ w. IsSame mid (after_entry rules s e now w old)) entry.judged entry.placed))

module _ (adds : (rules : Rules) (s : StreamKey) (now : ℕ) (es : List Entry) (old : State)
    → map numbered (after_push rules s now es old).rows ≡ reverse (accepted_entries s es (verdicts_of rules s now es old)) ++ map numbered old.rows) where
  pub pushed_kept : (rules : Rules) (s : StreamKey) (now : ℕ) (es : List Entry) (vs : List Verdict) (old new : State) (all : List Numbered) → Pushes rules s now es vs old new
      → IsPermutation (map numbered old.rows) all → IsPermutation (map numbered new.rows) (all ++ accepted_entries s es vs)
  pushed_kept rules s now [] [] old new all is kept = keeps_same old.rows new.rows all is.rows kept
  pushed_kept rules s now [] (v ∷ vs) old new all is kept = absurd is
  pushed_kept rules s now (e ∷ es) [] old new all is kept = absurd is
  pushed_kept rules s now (e ∷ es) (v ∷ vs) old new all (mid, entry, rest) kept =
      let n = accepted_number v in
      let one = with_accepted s e n [] in
      let here = after_push rules s now (e ∷ []) old in
      let placed : IsSame mid here = subst (λ w. IsSame mid (after_entry rules s e now w old)) entry.judged entry.placed in
      let told : reverse (accepted_entries s (e ∷ []) (verdicts_of rules s now (e ∷ []) old)) ≡ one =
      ap (λ w. reverse (accepted_entries s (e ∷ []) (w ∷ []))) (sym entry.judged) ∙ one_turned s e n in
      let rows : map numbered here.rows ≡ one ++ map numbered old.rows = adds rules s now (e ∷ []) old ∙ ap (λ l. l ++ map numbered old.rows) told in
      let front : IsPermutation (map numbered mid.rows) (one ++ map numbered old.rows) =
      subst (IsPermutation (map numbered mid.rows)) rows (IsPermutation-map numbered mid.rows here.rows placed.rows) in
      let back : IsPermutation (one ++ map numbered old.rows) (all ++ one) =
      IsPermutation-trans (one ++ map numbered old.rows) (map numbered old.rows ++ one) (all ++ one)
      (IsPermutation-append_comm one (map numbered old.rows)) (IsPermutation-append_left one (map numbered old.rows) all kept) in
      subst (IsPermutation (map numbered new.rows)) (one_first s e n all (accepted_entries s es vs))
      (pushed_kept rules s now es vs mid new (all ++ one) rest (IsPermutation-trans (map numbered mid.rows) (one ++ map numbered old.rows) (all ++ one) front back))
