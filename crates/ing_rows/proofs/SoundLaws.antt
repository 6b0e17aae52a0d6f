-- A push keeps a state sound.
use Rattle.std.proofs.Common.{◌≡◌, ℕ, suc, ◌+◌, ◌≤◌, Bool, true, false, cond, ◌&&◌, ◌||◌, List, [], ◌∷◌, length, map, filter, refl, sym, ap, subst, ◌∙◌, arith, nat_eq, nat_lt, is_none, is_some, Some, None}
use Rattle.std.specs.Prelude.{IsPermutation}
use Rattle.std.specs.List.{list_any}
use Rattle.std.proofs.lemmas.Bool.Decides.{nat_tests}
use Rattle.std.proofs.lemmas.List.Sorted.{length_permutation}
use Rattle.ing_rows.specs.declared.entry.Entry.{Entry}
use Rattle.ing_rows.specs.declared.place.Place.{Place}
use Rattle.ing_rows.specs.declared.place.Place.TheVariants.{Block}
use Rattle.ing_rows.specs.declared.place.SealReason.{SealReason}
use Rattle.ing_rows.specs.declared.place.SealReason.TheVariants.{Full}
use Rattle.ing_rows.specs.declared.rules.Rules.{Rules}
use Rattle.ing_rows.specs.declared.verdict.Verdict.{Verdict}
use Rattle.ing_rows.specs.Rows.{StreamKey, Row, Mark, State, IsSame, same_stream, rows_of, count_of, empty_state}
use Rattle.ing_rows.specs.Verdicts.{verdict_of, accepted_number}
use Rattle.ing_rows.specs.Gauges.{spots_of, StandsOnce}
use Rattle.ing_rows.specs.Steps.{moved, is_growing, is_mark_of, in_head, chunk_for, marks_for, added, cut, filled, accepted, after_entry, after_push}
use Rattle.ing_rows.specs.Sound.{IsSound}
use Rattle.ing_rows.proofs.Keys.{stream_same}
use Rattle.ing_rows.proofs.Reordered.{filter_reordered}

-- ---- how many elements pass a test

pub count_reordered : {X : Type 0} (p : X → Bool) (xs ys : List X) → IsPermutation xs ys → length (filter p xs) ≡ length (filter p ys)
count_reordered p xs ys h = sym (length_permutation (filter p xs) (filter p ys) (filter_reordered p xs ys h))

count_cond : {X : Type 0} (b : Bool) (x y : X) (xs ys : List X) → length xs ≡ length ys → length (cond b (x ∷ xs) xs) ≡ length (cond b (y ∷ ys) ys)
count_cond true x y xs ys h = ap (λ n. suc n) h
count_cond false x y xs ys h = h

module _ {X : Type 0} (p : X → Bool) (f : X → X) where
  pub count_mapped : ((x : X) → p (f x) ≡ p x) → (xs : List X) → length (filter p (map f xs)) ≡ length (filter p xs)
  count_mapped stays [] = refl
  count_mapped stays (x ∷ xs) =
      ap (λ b. length (cond b (f x ∷ filter p (map f xs)) (filter p (map f xs)))) (stays x)
      ∙ count_cond (p x) (f x) x (filter p (map f xs)) (filter p xs) (count_mapped stays xs)

  fewer_cond : (b c : Bool) → (b ≡ true → c ≡ true) → (x y : X) (xs ys : List X) → length xs ≤ length ys → length (cond b (x ∷ xs) xs) ≤ length (cond c (y ∷ ys) ys)
  fewer_cond true true h x y xs ys le = omega arith
  fewer_cond true false h x y xs ys le = absurd (cc (h refl))
  fewer_cond false true h x y xs ys le = omega arith
  fewer_cond false false h x y xs ys le = le

  pub fewer_mapped : ((x : X) → p (f x) ≡ true → p x ≡ true) → (xs : List X) → length (filter p (map f xs)) ≤ length (filter p xs)
  fewer_mapped less [] = omega arith
  fewer_mapped less (x ∷ xs) = fewer_cond (p (f x)) (p x) (less x) (f x) x (filter p (map f xs)) (filter p xs) (fewer_mapped less xs)

none_cond : {X : Type 0} (b rest : Bool) (x : X) (xs : List X) → (b || rest) ≡ false → (rest ≡ false → length xs ≡ 0) → length (cond b (x ∷ xs) xs) ≡ 0
none_cond true rest x xs h k = absurd (cc)
none_cond false rest x xs h k = k h

none_pass : {X : Type 0} (p : X → Bool) (xs : List X) → list_any p xs ≡ false → length (filter p xs) ≡ 0
none_pass p [] h = refl
none_pass p (x ∷ xs) h = none_cond (p x) (list_any p xs) x (filter p xs) h (none_pass p xs)

-- ---- each number once

one_more : (b : Bool) (r : Row) (X : List Row) → length (cond b (r ∷ X) X) ≡ cond b (length X + 1) (length X)
one_more true r X = omega arith
one_more false r X = refl

number_found : (number k q found : ℕ) → number ≡ k → found ≡ cond (nat_lt q k) 1 0 → cond (nat_eq number q) (found + 1) found ≡ cond (nat_lt q (suc k)) 1 0
number_found number k q found h f = grind (arith, nat_tests)

once_step : (s : StreamKey) (q : ℕ) (r : Row) (rows : List Row) → r.number ≡ count_of rows r.stream → length (spots_of rows s q) ≡ cond (nat_lt q (count_of rows s)) 1 0
    → (b : Bool) → same_stream r.stream s ≡ b
    → length (cond (b && nat_eq r.number q) (r ∷ spots_of rows s q) (spots_of rows s q)) ≡ cond (nat_lt q (length (cond b (r ∷ rows_of s rows) (rows_of s rows)))) 1 0
once_step s q r rows counted so_far true is =
    one_more (nat_eq r.number q) r (spots_of rows s q)
    ∙ number_found r.number (count_of rows s) q (length (spots_of rows s q)) (counted ∙ ap (count_of rows) (stream_same r.stream s is)) so_far
once_step s q r rows counted so_far false is = so_far

-- one more row, under the next number of its stream
more_once : (r : Row) (rows : List Row) → r.number ≡ count_of rows r.stream → ((s : StreamKey) → StandsOnce rows s (count_of rows s))
    → (s : StreamKey) → StandsOnce (r ∷ rows) s (count_of (r ∷ rows) s)
more_once r rows counted once s q = once_step s q r rows counted (once s q) (same_stream r.stream s) refl

-- moved rows keep their numbers
module _ (test : Row → Bool) (place : Place) where
  abbrev put : Row → Row
  put r = cond (test r) (record r { place = place }) r

  stays_for : (p : Row → Bool) → ((r : Row) → p (record r { place = place }) ≡ p r) → (r : Row) → p (put r) ≡ p r
  stays_for p apart r = by_cases (test r) where
    by_cases : (b : Bool) → p (cond b (record r { place = place }) r) ≡ p r
    by_cases true = apart r
    by_cases false = refl

  pub moved_count : (rows : List Row) (s : StreamKey) → count_of (moved test place rows) s ≡ count_of rows s
  moved_count rows s = count_mapped (λ r. same_stream r.stream s) put (stays_for (λ r. same_stream r.stream s) (λ r. refl)) rows

  pub moved_once : (rows : List Row) → ((s : StreamKey) → StandsOnce rows s (count_of rows s)) → (s : StreamKey) → StandsOnce (moved test place rows) s (count_of (moved test place rows) s)
  moved_once rows once s q =
      let p : Row → Bool = λ r. same_stream r.stream s && nat_eq r.number q in
      count_mapped p put (stays_for p (λ r. refl)) rows ∙ once s q ∙ ap (λ n. cond (nat_lt q n) 1 0) (sym (moved_count rows s))

-- ---- one growing chunk

module _ (s : StreamKey) (now : ℕ) (other : StreamKey) where
  updated : (m : Mark) → is_growing other (cond (is_growing s m) (record m { last_update = now }) m) ≡ is_growing other m
  updated m = by_cases (is_growing s m) where
    by_cases : (b : Bool) → is_growing other (cond b (record m { last_update = now }) m) ≡ is_growing other m
    by_cases true = refl
    by_cases false = refl

  new_grows : (old : State) → ((t : StreamKey) → length (filter (is_growing t) old.marks) ≤ 1) → (new : Mark) → list_any (is_growing s) old.marks ≡ false
      → (b : Bool) → same_stream s other ≡ b → length (cond (b && true) (new ∷ filter (is_growing other) old.marks) (filter (is_growing other) old.marks)) ≤ 1
  new_grows old one new none true is =
      let empty : length (filter (is_growing other) old.marks) ≡ 0 = subst (λ t. length (filter (is_growing t) old.marks) ≡ 0) (stream_same s other is) (none_pass (is_growing s) old.marks none) in
      omega arith
  new_grows old one new none false is = one other

  one_growing_for : (old : State) → ((t : StreamKey) → length (filter (is_growing t) old.marks) ≤ 1) → length (filter (is_growing other) (marks_for old s now)) ≤ 1
  one_growing_for old one = by_cases (list_any (is_growing s) old.marks) refl where
    by_cases : (b : Bool) → list_any (is_growing s) old.marks ≡ b
        → length (filter (is_growing other) (cond b (map (λ m. cond (is_growing s m) (record m { last_update = now }) m) old.marks) (record { stream = s; chunk = count_of old.rows s; last_update = now; reason = None } ∷ old.marks))) ≤ 1
    by_cases true is = subst (λ n. n ≤ 1) (sym (count_mapped (is_growing other) (λ m. cond (is_growing s m) (record m { last_update = now }) m) updated old.marks)) (one other)
    by_cases false is = new_grows old one (record { stream = s; chunk = count_of old.rows s; last_update = now; reason = None }) is (same_stream s other) refl

-- a sealed mark does not grow
module _ (s : StreamKey) (chunk : ℕ) (reason : SealReason) (other : StreamKey) where
  abbrev seal : Mark → Mark
  seal m = cond (is_mark_of s chunk m) (record m { reason = Some reason }) m

  grew_before : (m : Mark) → is_growing other (seal m) ≡ true → is_growing other m ≡ true
  grew_before m = by_cases (is_mark_of s chunk m) where
    by_cases : (b : Bool) → is_growing other (cond b (record m { reason = Some reason }) m) ≡ true → is_growing other m ≡ true
    by_cases true h = impossible (same_stream m.stream other) h where
      impossible : (b : Bool) → (b && false) ≡ true → (b && is_none m.reason) ≡ true
      impossible true k = absurd (cc)
      impossible false k = k
    by_cases false h = h

  sealed_grow : (marks : List Mark) → length (filter (is_growing other) marks) ≤ 1 → length (filter (is_growing other) (map seal marks)) ≤ 1
  sealed_grow marks one = let fewer : length (filter (is_growing other) (map seal marks)) ≤ length (filter (is_growing other) marks) = fewer_mapped (is_growing other) seal grew_before marks in omega arith

-- ---- a push

cond_sound : (b : Bool) (x y : State) → IsSound x → IsSound y → IsSound (cond b x y)
cond_sound true x y h k = h
cond_sound false x y h k = k

module _ (rules : Rules) (s : StreamKey) (now : ℕ) where
  added_sound : (e : Entry) (old : State) → IsSound old → IsSound (added old s e now)
  added_sound e old h = record { once = more_once _ old.rows refl h.once; one_growing = λ t. one_growing_for s now t old h.one_growing }

  cut_sound : (chunk : ℕ) (st : State) → IsSound st → IsSound (cut rules s chunk st)
  cut_sound chunk st h = cond_sound _ _ st (record { once = moved_once (in_head s chunk) Block st.rows h.once; one_growing = h.one_growing }) h

  filled_sound : (chunk : ℕ) (st : State) → IsSound st → IsSound (filled rules s chunk st)
  filled_sound chunk st h =
      cond_sound _ _ st
      (record { once = moved_once (in_head s chunk) Block st.rows h.once; one_growing = λ t. sealed_grow s chunk Full t st.marks (h.one_growing t) }) h

  pub accepted_sound : (e : Entry) (old : State) → IsSound old → IsSound (accepted rules s e now old)
  accepted_sound e old h =
      let chunk = chunk_for old s in
      filled_sound chunk (cut rules s chunk (added old s e now)) (cut_sound chunk (added old s e now) (added_sound e old h))

  pub entry_sound : (e : Entry) (v : Verdict) (old : State) → IsSound old → IsSound (after_entry rules s e now v old)
  entry_sound e v old h = cond_sound (is_some (accepted_number v)) _ old (accepted_sound e old h) h

  pub push_sound : (es : List Entry) (old : State) → IsSound old → IsSound (after_push rules s now es old)
  push_sound [] old h = h
  push_sound (e ∷ es) old h = push_sound es (after_entry rules s e now (verdict_of old.rows rules s e) old) (entry_sound e (verdict_of old.rows rules s e) old h)

-- ---- another order

pub order_sound : (a b : State) → IsSound a → IsSame a b → IsSound b
order_sound a b h same =
    record {
      once = λ s q.
          sym (count_reordered (λ r. same_stream r.stream s && nat_eq r.number q) a.rows b.rows same.rows) ∙ h.once s q
          ∙ ap (λ n. cond (nat_lt q n) 1 0) (count_reordered (λ r. same_stream r.stream s) a.rows b.rows same.rows);
      one_growing = λ s. subst (λ n. n ≤ 1) (count_reordered (is_growing s) a.marks b.marks same.marks) (h.one_growing s);
    }

pub empty_sound : IsSound empty_state
empty_sound = record { once = λ s q. nothing_below q; one_growing = λ s. omega arith } where
  nothing_below : (q : ℕ) → ◌≡◌ {A = ℕ} 0 (cond (nat_lt q 0) 1 0)
  nothing_below q = grind (arith, nat_tests)
