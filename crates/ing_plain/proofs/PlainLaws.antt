-- What the slow program counts is what the model has, and what it keeps stays so.
use Rattle.std.proofs.Common.{◌≡◌, ℕ, zero, suc, get_or, take, drop, add-one, ◌+◌, ◌<◌, ◌≤◌, max, Bool, true, false, cond, not, ◌&&◌, ◌||◌, List, [], ◌∷◌, ◌++◌, length, map, filter, reverse, refl, sym, ap, subst, ◌∙◌, append_assoc, arith, bytes_eq, nat_eq, nat_lt, nat_le, is_some, find, Some, None}
use Rattle.std.specs.Prelude.{All, Option, IsPermutation}
use Rattle.std.specs.List.{list_any}
use Rattle.std.specs.Option.{option_map}
use Rattle.std.proofs.lemmas.Bool.Decides.{nat_tests}
use Rattle.std.proofs.Math.ListN.{set}
use Rattle.std.proofs.lemmas.List.{length-map, map-append, reverse-append}
use Rattle.std.proofs.lemmas.List.Sorted.{IsPermutation-sym, IsPermutation-reverse, length_permutation, All-permutation}
use Rattle.std.proofs.lemmas.List.Elements.{All-head, All-tail, All-cons, All-map}
use Rattle.ing_rows.specs.declared.entry.Entry.{Entry}
use Rattle.ing_rows.specs.declared.place.Place.{Place}
use Rattle.ing_rows.specs.declared.place.Place.TheVariants.{Block}
use Rattle.ing_rows.specs.declared.place.SealReason.TheVariants.{Full}
use Rattle.ing_rows.specs.declared.rules.Rules.{Rules}
use Rattle.ing_rows.specs.declared.verdict.Verdict.{Verdict}
use Rattle.ing_rows.specs.Rows.{StreamKey, Row, Mark, State, same_stream, is_block, is_stored, size_of_rows, rows_of, rows_of_chunk, is_of_chunk, count_of, has_stream, streams_of, is_live, live_streams}
use Rattle.ing_rows.specs.Sound.{IsSound}
use Rattle.ing_rows.specs.Turns.{IsMarked}
use Rattle.ing_rows.specs.Verdicts.{verdict_of, accepted_number}
use Rattle.ing_rows.specs.Steps.{moved, is_growing, marks_for, is_mark_of, in_head, blocks_of, chunk_for, added, cut, filled, after_entry, after_push, verdicts_of}
use Rattle.ing_plain.specs.Plain.{AreCounted, IsPushed}
use Rattle.ing_plain.proofs.Lists.{stream_same, bytes_self, has_more, length_more, filter_both, moved_count}

-- ---- streams by their first rows

some_cond : (b : Bool) (r : Row) (rows : List Row) → nat_lt 0 (length (cond b (r ∷ rows) rows)) ≡ (b || nat_lt 0 (length rows))
some_cond true r rows = grind (arith, nat_tests)
some_cond false r rows = refl

has_row : (rows : List Row) (s : StreamKey) → has_stream s (streams_of rows) ≡ nat_lt 0 (count_of rows s)
has_row [] s = refl
has_row (r ∷ rows) s =
    has_more r.stream s (streams_of rows) ∙ ap (λ b. same_stream r.stream s || b) (has_row rows s) ∙ sym (some_cond (same_stream r.stream s) r (rows_of s rows))

first_cond : (n k : ℕ) (r : Row) (rows : List Row) → k ≡ length rows → k + cond (nat_lt 0 n) 0 1 ≡ length (cond (nat_eq n 0) (r ∷ rows) rows)
first_cond n k r rows h = by_cases (nat_eq n 0) refl (nat_lt 0 n) refl where
  by_cases : (b : Bool) → nat_eq n 0 ≡ b → (c : Bool) → nat_lt 0 n ≡ c → k + cond c 0 1 ≡ length (cond b (r ∷ rows) rows)
  by_cases true first true more = absurd (grind (arith, nat_tests))
  by_cases true first false more = omega arith
  by_cases false first true more = omega arith
  by_cases false first false more = absurd (grind (arith, nat_tests))

-- each stream has one row of number 0
pub stream_count : (rows : List Row) → AreCounted rows → length (streams_of rows) ≡ length (filter (λ r. nat_eq r.number 0) rows)
stream_count [] counted = refl
stream_count (r ∷ rows) counted =
    length_more (has_stream r.stream (streams_of rows)) r.stream (streams_of rows)
    ∙ ap (λ b. length (streams_of rows) + cond b 0 1) (has_row rows r.stream ∙ ap (nat_lt 0) (sym counted.0))
    ∙ first_cond r.number (length (streams_of rows)) r (filter (λ q. nat_eq q.number 0) rows) (stream_count rows counted.1)

module _ (t : List ℕ) where
  abbrev is_of_tenant : Row → Bool
  is_of_tenant r = bytes_eq r.stream.tenant t

  unstored_live : (rows : List Row) → All (λ r. is_stored r.place ≡ false) rows → filter (is_live t) rows ≡ filter is_of_tenant rows
  unstored_live [] un = refl
  unstored_live (r ∷ rows) un =
      let here : is_stored r.place ≡ false = All-head (λ (q : Row). is_stored q.place ≡ false) r rows un in
      ap (λ l. cond (bytes_eq r.stream.tenant t && not (is_stored r.place)) (r ∷ l) l) (unstored_live rows (All-tail (λ (q : Row). is_stored q.place ≡ false) r rows un))
      ∙ ap (λ b. cond (bytes_eq r.stream.tenant t && not b) (r ∷ filter is_of_tenant rows) (filter is_of_tenant rows)) here
      ∙ ap (λ b. cond b (r ∷ filter is_of_tenant rows) (filter is_of_tenant rows)) (and_true (bytes_eq r.stream.tenant t)) where
        and_true : (b : Bool) → (b && true) ≡ b
        and_true true = refl
        and_true false = refl

  -- a stream of the tenant has its rows among those of the tenant
  of_tenant : (r : Row) (s : StreamKey) → bytes_eq s.tenant t ≡ true → (is_of_tenant r && same_stream r.stream s) ≡ same_stream r.stream s
  of_tenant r s mine = by_cases (same_stream r.stream s) refl (is_of_tenant r) refl where
    by_cases : (b : Bool) → same_stream r.stream s ≡ b → (c : Bool) → is_of_tenant r ≡ c → (c && b) ≡ b
    by_cases true same true is = refl
    by_cases true same false is = absurd (cc (ap (λ x. bytes_eq x.tenant t) (stream_same r.stream s same)))
    by_cases false same true is = refl
    by_cases false same false is = refl

  tenant_rows : (rows : List Row) (s : StreamKey) → bytes_eq s.tenant t ≡ true → filter (λ r. is_of_tenant r && same_stream r.stream s) rows ≡ rows_of s rows
  tenant_rows [] s mine = refl
  tenant_rows (r ∷ rows) s mine =
      ap (λ l. cond (is_of_tenant r && same_stream r.stream s) (r ∷ l) l) (tenant_rows rows s mine)
      ∙ ap (λ b. cond b (r ∷ rows_of s rows) (rows_of s rows)) (of_tenant r s mine)

  count_in : (rows : List Row) (s : StreamKey) → bytes_eq s.tenant t ≡ true → count_of (filter is_of_tenant rows) s ≡ count_of rows s
  count_in rows s mine = ap length (filter_both (λ r. same_stream r.stream s) is_of_tenant rows ∙ tenant_rows rows s mine)

  counted_in : (rows : List Row) → AreCounted rows → AreCounted (filter is_of_tenant rows)
  counted_in [] counted = tt
  counted_in (r ∷ rows) counted = by_cases (is_of_tenant r) refl (counted_in rows counted.1) where
    by_cases : (b : Bool) → is_of_tenant r ≡ b → AreCounted (filter is_of_tenant rows) → AreCounted (cond b (r ∷ filter is_of_tenant rows) (filter is_of_tenant rows))
    by_cases true is rest = (counted.0 ∙ sym (count_in rows r.stream is), rest)
    by_cases false is rest = rest

  pub live_count : (rows : List Row) → AreCounted rows → All (λ r. is_stored r.place ≡ false) rows
      → length (filter (λ r. bytes_eq r.stream.tenant t && nat_eq r.number 0) rows) ≡ length (live_streams rows t)
  live_count rows counted un =
      sym (ap length (filter_both (λ r. nat_eq r.number 0) is_of_tenant rows))
      ∙ sym (stream_count (filter is_of_tenant rows) (counted_in rows counted))
      ∙ ap (λ l. length (streams_of l)) (sym (unstored_live rows un))

  live_row : (rows : List Row) (s : StreamKey) → bytes_eq s.tenant t ≡ true → All (λ r. is_stored r.place ≡ false) rows
      → has_stream s (live_streams rows t) ≡ nat_lt 0 (count_of rows s)
  live_row rows s mine un = ap (λ l. has_stream s (streams_of l)) (unstored_live rows un) ∙ has_row (filter is_of_tenant rows) s ∙ ap (nat_lt 0) (count_in rows s mine)

-- where none is stored, a stream is live where it has a row
pub is_live_row : (rows : List Row) (s : StreamKey) → All (λ r. is_stored r.place ≡ false) rows → has_stream s (live_streams rows s.tenant) ≡ nat_lt 0 (count_of rows s)
is_live_row rows s un = live_row s.tenant rows s (bytes_self s.tenant) un

-- ---- what a push keeps

put_number : (b : Bool) (place : Place) (r : Row) → (cond b (record r { place = place }) r).number ≡ r.number
put_number true place r = refl
put_number false place r = refl

put_stream : (b : Bool) (place : Place) (r : Row) → (cond b (record r { place = place }) r).stream ≡ r.stream
put_stream true place r = refl
put_stream false place r = refl

pub moved_counted : (test : Row → Bool) (place : Place) (rows : List Row) → AreCounted rows → AreCounted (moved test place rows)
moved_counted test place [] counted = tt
moved_counted test place (r ∷ rows) counted =
    (put_number (test r) place r ∙ counted.0 ∙ sym (moved_count test place rows r.stream) ∙ ap (count_of (moved test place rows)) (sym (put_stream (test r) place r)), moved_counted test place rows counted.1)

put_unstored : (b : Bool) (place : Place) (r : Row) → is_stored place ≡ false → is_stored r.place ≡ false → is_stored (cond b (record r { place = place }) r).place ≡ false
put_unstored true place r h k = h
put_unstored false place r h k = k

put_block : (b : Bool) (place : Place) (r : Row) (n : ℕ) → r.block < n → (cond b (record r { place = place }) r).block < n
put_block true place r n h = h
put_block false place r n h = h

block_cond : (b c : Bool) (n block rest : ℕ) → block < n → rest ≤ n → cond b (cond c (max (block + 1) rest) rest) rest ≤ n
block_cond true true n block rest h k = omega arith
block_cond true false n block rest h k = k
block_cond false c n block rest h k = k

blocks_cond : (b : Bool) (r : Row) (rows : List Row) → blocks_of (cond b (r ∷ rows) rows) ≡ cond b (cond (is_block r.place) (max (r.block + 1) (blocks_of rows)) (blocks_of rows)) (blocks_of rows)
blocks_cond true r rows = refl
blocks_cond false r rows = refl

fewer_blocks : (n : ℕ) (p : Row → Bool) (rows : List Row) → All (λ r. r.block < n) rows → blocks_of (filter p rows) ≤ n
fewer_blocks n p [] below = omega arith
fewer_blocks n p (r ∷ rows) below =
    let here : r.block < n = All-head (λ (q : Row). q.block < n) r rows below in
    let rest : blocks_of (filter p rows) ≤ n = fewer_blocks n p rows (All-tail (λ (q : Row). q.block < n) r rows below) in
    subst (λ k. k ≤ n) (sym (blocks_cond (p r) r (filter p rows))) (block_cond (p r) (is_block r.place) n r.block (blocks_of (filter p rows)) here rest)

pub record KeepsRows (st : State) : Type 0 where
  pub counted : AreCounted st.rows
  pub unstored : All (λ r. is_stored r.place ≡ false) st.rows
  pub blocks : All (λ r. r.block < length st.rows) st.rows

pub moved_kept : (test : Row → Bool) (st : State) (marks : List Mark) → KeepsRows st → KeepsRows (record { rows = moved test Block st.rows; marks = marks })
moved_kept test st marks kept =
    let f : Row → Row = λ r. cond (test r) (record r { place = Block }) r in
    let many : length (map f st.rows) ≡ length st.rows = length-map st.rows f in
    record {
      counted = moved_counted test Block st.rows kept.counted;
      unstored = All-map (λ (r : Row). is_stored r.place ≡ false) f st.rows (λ k d below. put_unstored (test _) Block _ refl (kept.unstored k d below));
      blocks =
          subst (λ n. All (λ (r : Row). r.block < n) (map f st.rows)) (sym many)
          (All-map (λ (r : Row). r.block < length st.rows) f st.rows (λ k d below. put_block (test _) Block _ (length st.rows) (kept.blocks k d below)));
    }

kept_cond : (b : Bool) (x y : State) → KeepsRows x → KeepsRows y → KeepsRows (cond b x y)
kept_cond true x y h k = h
kept_cond false x y h k = k

suc_above : (m n : ℕ) → m < n → m < suc n
suc_above m n h = omega arith

module _ (rules : Rules) (s : StreamKey) (now : ℕ) where
  added_kept : (e : Entry) (old : State) → KeepsRows old → KeepsRows (added old s e now)
  added_kept e old kept =
      let n = length old.rows in
      let block = blocks_of (rows_of_chunk s (chunk_for old s) old.rows) in
      let few : block ≤ n = fewer_blocks n (is_of_chunk s (chunk_for old s)) old.rows kept.blocks in
      let last : block < suc n = omega arith in
      record {
        counted = (refl, kept.counted);
        unstored = All-cons (λ (r : Row). is_stored r.place ≡ false) _ old.rows refl kept.unstored;
        blocks = All-cons (λ (r : Row). r.block < suc n) _ old.rows last (λ k d below. suc_above _ n (kept.blocks k d below));
      }

  cut_kept : (chunk : ℕ) (st : State) → KeepsRows st → KeepsRows (cut rules s chunk st)
  cut_kept chunk st h = kept_cond _ _ st (moved_kept (in_head s chunk) st st.marks h) h

  filled_kept : (chunk : ℕ) (st : State) → KeepsRows st → KeepsRows (filled rules s chunk st)
  filled_kept chunk st h = kept_cond _ _ st (moved_kept (in_head s chunk) st _ h) h

  pub entry_kept : (e : Entry) (v : Verdict) (old : State) → KeepsRows old → KeepsRows (after_entry rules s e now v old)
  entry_kept e v old h =
      let chunk = chunk_for old s in
      kept_cond (is_some (accepted_number v)) _ old (filled_kept chunk (cut rules s chunk (added old s e now)) (cut_kept chunk (added old s e now) (added_kept e old h))) h

-- ---- lists that are changed one element after another

module _ {X : Type 0} (f : X → X) where
  abbrev pub mapped_to : ℕ → List X → List X
  mapped_to i xs = map f (take i xs) ++ drop i xs

  pub at_index : (xs : List X) (i : ℕ) (d : X) → i < length xs → get_or (mapped_to i xs) i d ≡ get_or xs i d
  at_index [] i d h = absurd (omega arith)
  at_index (x ∷ xs) zero d h = refl
  at_index (x ∷ xs) (suc i) d h = let below : i < length xs = omega arith in at_index xs i d below

  one_more : (xs : List X) (i : ℕ) (d : X) → i < length xs → set (mapped_to i xs) i (f (get_or xs i d)) ≡ mapped_to (suc i) xs
  one_more [] i d h = absurd (omega arith)
  one_more (x ∷ xs) zero d h = refl
  one_more (x ∷ xs) (suc i) d h = let below : i < length xs = omega arith in ap (λ l. f x ∷ l) (one_more xs i d below)

  -- the element at the index is changed
  pub mapped_more : (xs ys : List X) (i : ℕ) (x : X) → ys ≡ mapped_to i xs → i < length ys → length ys ≡ length xs → x ≡ get_or ys i x
      → set ys i (f x) ≡ mapped_to (i + 1) xs
  mapped_more xs ys i x so_far here many is =
      let below : i < length xs = omega arith in
      let old : x ≡ get_or xs i x = is ∙ ap (λ l. get_or l i x) so_far ∙ at_index xs i x below in
      ap (λ l. set l i (f x)) so_far ∙ ap (λ y. set (mapped_to i xs) i (f y)) old ∙ one_more xs i x below ∙ ap (λ n. mapped_to n xs) (sym (add-one i))

pub reverse_mapped : {X Y : Type 0} (f : X → Y) (xs : List X) → reverse (map f xs) ≡ map f (reverse xs)
reverse_mapped f [] = refl
reverse_mapped f (x ∷ xs) =
    reverse-append (f x ∷ []) (map f xs) ∙ ap (λ l. l ++ f x ∷ []) (reverse_mapped f xs)
    ∙ sym (map-append f (reverse xs) (x ∷ [])) ∙ ap (map f) (sym (reverse-append (x ∷ []) xs))

pub reverse_more : {X : Type 0} (xs : List X) (x : X) → reverse (xs ++ x ∷ []) ≡ x ∷ reverse xs
reverse_more xs x = reverse-append xs (x ∷ [])

found_test : {X : Type 0} (b : Bool) (x : X) (o : Option X) (rest : Bool) (f : X → ℕ) → is_some (option_map f o) ≡ rest → is_some (option_map f (cond b (Some x) o)) ≡ (b || rest)
found_test true x o rest f h = refl
found_test false x o rest f h = h

pub growing_test : {X : Type 0} (f : X → ℕ) (p : X → Bool) (xs : List X) → is_some (option_map f (find p xs)) ≡ list_any p xs
growing_test f p [] = refl
growing_test f p (x ∷ xs) = found_test (p x) x (find p xs) (list_any p xs) f (growing_test f p xs)

-- ---- the state after a change of the lists

module _ (rules : Rules) (s : StreamKey) (chunk : ℕ) (rows new : List Row) (h : new ≡ moved (in_head s chunk) Block rows) where
  closed : reverse new ≡ moved (in_head s chunk) Block (reverse rows)
  closed = ap reverse h ∙ reverse_mapped (λ r. cond (in_head s chunk r) (record r { place = Block }) r) rows

  pub cut_state : (marks : List Mark) → true ≡ nat_le rules.chunk_block_size (size_of_rows (filter (in_head s chunk) (reverse rows)))
      → let after : State = record { rows = reverse new; marks = reverse marks } in let before : State = record { rows = reverse rows; marks = reverse marks } in
      after ≡ cut rules s chunk before
  cut_state marks full =
      let before : State = record { rows = reverse rows; marks = reverse marks } in
      (λ i. record { rows = closed i; marks = reverse marks })
      ∙ ap (λ b. cond b (record { rows = moved (in_head s chunk) Block (reverse rows); marks = reverse marks }) before) full

  pub filled_state : (marks sealed : List Mark) → true ≡ nat_le rules.chunk_target_size (size_of_rows (rows_of_chunk s chunk (reverse rows)))
      → sealed ≡ map (λ m. cond (is_mark_of s chunk m) (record m { reason = Some Full }) m) marks
      → let after : State = record { rows = reverse new; marks = reverse sealed } in let before : State = record { rows = reverse rows; marks = reverse marks } in
      after ≡ filled rules s chunk before
  filled_state marks sealed full k =
      let before : State = record { rows = reverse rows; marks = reverse marks } in
      let seal : Mark → Mark = λ m. cond (is_mark_of s chunk m) (record m { reason = Some Full }) m in
      (λ i. record { rows = closed i; marks = (ap reverse k ∙ reverse_mapped seal marks) i })
      ∙ ap (λ b. cond b (record { rows = moved (in_head s chunk) Block (reverse rows); marks = map seal (reverse marks) }) before) full

-- ---- the marks after an accepted entry

module _ (s : StreamKey) (now : ℕ) (rows : List Row) (marks : List Mark) where
  pub updated_marks : (new : List Mark) → true ≡ list_any (is_growing s) (reverse marks) → new ≡ map (λ m. cond (is_growing s m) (record m { last_update = now }) m) marks
      → reverse new ≡ marks_for (record { rows = rows; marks = reverse marks }) s now
  updated_marks new test h =
      let update : Mark → Mark = λ m. cond (is_growing s m) (record m { last_update = now }) m in
      ap reverse h ∙ reverse_mapped update marks
      ∙ ap (λ b. cond b (map update (reverse marks)) (record { stream = s; chunk = count_of rows s; last_update = now; reason = None } ∷ reverse marks)) test

  pub begun_marks : (mark : Mark) → false ≡ list_any (is_growing s) (reverse marks) → mark ≡ record { stream = s; chunk = count_of rows s; last_update = now; reason = None }
      → reverse (marks ++ mark ∷ []) ≡ marks_for (record { rows = rows; marks = reverse marks }) s now
  begun_marks mark test h =
      let update : Mark → Mark = λ m. cond (is_growing s m) (record m { last_update = now }) m in
      reverse_more marks mark ∙ ap (λ m. m ∷ reverse marks) h
      ∙ ap (λ b. cond b (map update (reverse marks)) (record { stream = s; chunk = count_of rows s; last_update = now; reason = None } ∷ reverse marks)) test

pub blocks_back : (rows : List Row) → All (λ r. r.block < length (reverse rows)) (reverse rows) → All (λ r. r.block < length rows) rows
blocks_back rows h =
    let same : IsPermutation (reverse rows) rows = IsPermutation-sym rows (reverse rows) (IsPermutation-reverse rows) in
    subst (λ n. All (λ (r : Row). r.block < n) rows) (sym (length_permutation (reverse rows) rows same))
    (All-permutation (λ (r : Row). r.block < length (reverse rows)) (reverse rows) rows same h)

-- ---- one more entry of a push

module _ (rules : Rules) (s : StreamKey) (now : ℕ) (v : Verdict) (e : Entry) (left rest : List Entry) (st new : State)
    (left_is : left ≡ e ∷ rest) (v_is : v ≡ verdict_of st.rows rules s e) (new_is : new ≡ after_entry rules s e now v st) where
  placed : new ≡ after_entry rules s e now (verdict_of st.rows rules s e) st
  placed = new_is ∙ ap (λ w. after_entry rules s e now w st) v_is

  pub told_more : (vs all : List Verdict) → vs ++ verdicts_of rules s now left st ≡ all → (vs ++ v ∷ []) ++ verdicts_of rules s now rest new ≡ all
  told_more vs all h =
      let this : v ∷ verdicts_of rules s now rest new ≡ verdicts_of rules s now (e ∷ rest) st = λ i. v_is i ∷ verdicts_of rules s now rest (placed i) in
      append_assoc vs (v ∷ []) (verdicts_of rules s now rest new) ∙ ap (λ l. vs ++ l) (this ∙ sym (ap (λ l. verdicts_of rules s now l st) left_is)) ∙ h

  pub state_more : (all : State) → after_push rules s now left st ≡ all → after_push rules s now rest new ≡ all
  state_more all h = ap (after_push rules s now rest) placed ∙ sym (ap (λ l. after_push rules s now l st) left_is) ∙ h

  -- what pushing the entry alone leaves is what there is
  pub pushed_more : IsPushed st → IsSound (after_push rules s now (e ∷ []) st) → IsMarked (after_push rules s now (e ∷ []) st) → IsPushed new
  pushed_more h sound marked =
      let kept : KeepsRows new = subst KeepsRows (sym new_is) (entry_kept rules s now e v st (record { counted = h.counted; unstored = h.unstored; blocks = h.blocks })) in
      record { counted = kept.counted; sound = subst IsSound (sym placed) sound; marked = subst IsMarked (sym placed) marked; unstored = kept.unstored; blocks = kept.blocks }
