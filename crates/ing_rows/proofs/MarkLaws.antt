-- Each chunk has at most one mark, whatever is pushed and sealed.
use Rattle.std.proofs.Common.{◌≡◌, ℕ, ◌+◌, ◌<◌, ◌≤◌, Bool, true, false, cond, ◌&&◌, ◌⊎◌, inl, inr, List, [], ◌∷◌, ◌++◌, length, map, filter, refl, sym, ap, subst, ◌∙◌, arith, nat_eq, is_some, Some, None, length-append}
use Rattle.std.specs.Prelude.{All, Option}
use Rattle.std.specs.List.{list_any}
use Rattle.std.proofs.lemmas.Bool.Decides.{nat_tests}
use Rattle.std.proofs.lemmas.List.Elements.{All-nil, All-cons, All-weaker, All-map, All-append}
use Rattle.std.proofs.lemmas.List.Sorted.{All-permutation}
use Rattle.ing_rows.specs.declared.entry.Entry.{Entry}
use Rattle.ing_rows.specs.declared.place.Place.{Place}
use Rattle.ing_rows.specs.declared.place.Place.TheVariants.{Block}
use Rattle.ing_rows.specs.declared.place.SealReason.{SealReason}
use Rattle.ing_rows.specs.declared.place.SealReason.TheVariants.{Full}
use Rattle.ing_rows.specs.declared.rules.Rules.{Rules}
use Rattle.ing_rows.specs.declared.verdict.Verdict.{Verdict}
use Rattle.ing_rows.specs.Verdicts.{accepted_number}
use Rattle.ing_rows.specs.Rows.{StreamKey, Row, Mark, State, IsSame, empty_state, same_stream, is_head, rows_of, count_of}
use Rattle.ing_rows.specs.Steps.{moved, is_growing, is_mark_of, in_head, chunk_for, added, cut, filled, accepted, accepted_in_turn, after_entry, after_push, verdicts_of, seal_of, is_sealed_now, given, seal_mark, sealed_by}
use Rattle.ing_rows.specs.Turns.{accepted_among, beside, IsMarked}
use Rattle.ing_rows.proofs.Keys.{and_true, stream_same, stream_self}
use Rattle.ing_rows.proofs.SoundLaws.{count_reordered, count_mapped, moved_count}
use Rattle.ing_rows.proofs.FactLaws.{pushed_in_turn}
use Rattle.ing_rows.proofs.ApartLaws.{alone, filter_none, filter_joined}
use Rattle.ing_rows.proofs.TurnLaws.{next_is}

-- ---- marks that keep stream and chunk, and rows that are no fewer

abbrev Known : List Row → Mark → Type 0
Known rows m = m.chunk < count_of rows m.stream

more_known : (old new : List Row) → ((t : StreamKey) → count_of old t ≤ count_of new t) → (m : Mark) → Known old m → Known new m
more_known old new more m h = let most : count_of old m.stream ≤ count_of new m.stream = more m.stream in omega arith

rows_marked : (old new : List Row) (marks : List Mark) → ((t : StreamKey) → count_of old t ≤ count_of new t)
    → IsMarked (record { rows = old; marks = marks }) → IsMarked (record { rows = new; marks = marks })
rows_marked old new marks more h = record { one = h.one; known = All-weaker (Known old) (Known new) (more_known old new more) marks h.known }

record KeepsChunk (f : Mark → Mark) : Type 0 where
  stream : (m : Mark) → (f m).stream ≡ m.stream
  chunk : (m : Mark) → (f m).chunk ≡ m.chunk

marks_marked : (f : Mark → Mark) → KeepsChunk f → (rows : List Row) (marks : List Mark)
    → IsMarked (record { rows = rows; marks = marks }) → IsMarked (record { rows = rows; marks = map f marks })
marks_marked f keeps rows marks h =
    record {
      one = λ t c. subst (λ n. n ≤ 1) (sym (count_mapped (is_mark_of t c) f (λ m i. same_stream (keeps.stream m i) t && nat_eq (keeps.chunk m i) c) marks)) (h.one t c);
      known =
          All-map (Known rows) f marks
          (All-weaker (Known rows) (λ m. Known rows (f m)) (λ m k. subst (λ n. n < count_of rows (f m).stream) (sym (keeps.chunk m)) (subst (λ t. m.chunk < count_of rows t) (sym (keeps.stream m)) k)) marks h.known);
    }

pub moved_marked : (test : Row → Bool) (place : Place) (rows : List Row) (marks : List Mark)
    → IsMarked (record { rows = rows; marks = marks }) → IsMarked (record { rows = moved test place rows; marks = marks })
moved_marked test place rows marks h =
    rows_marked rows (moved test place rows) marks
    (λ t. let same : count_of (moved test place rows) t ≡ count_of rows t = moved_count test place rows t in omega arith) h

cond_keeps : (test : Mark → Bool) (f : Mark → Mark) → KeepsChunk f → KeepsChunk (λ m. cond (test m) (f m) m)
cond_keeps test f keeps = record { stream = λ m. stream_at (test m) m; chunk = λ m. chunk_at (test m) m } where
  stream_at : (b : Bool) (m : Mark) → (cond b (f m) m).stream ≡ m.stream
  stream_at true m = keeps.stream m
  stream_at false m = refl

  chunk_at : (b : Bool) (m : Mark) → (cond b (f m) m).chunk ≡ m.chunk
  chunk_at true m = keeps.chunk m
  chunk_at false m = refl

cond_marked : (b : Bool) (x y : State) → IsMarked x → IsMarked y → IsMarked (cond b x y)
cond_marked true x y h k = h
cond_marked false x y h k = k

-- ---- a push

-- no mark of the stream has a chunk that begins with the next number
none_next : (s : StreamKey) (n : ℕ) (marks : List Mark) (rows : List Row) → n ≡ count_of rows s → All (Known rows) marks → All (λ m. is_mark_of s n m ≡ false) marks
none_next s n marks rows is h = All-weaker (Known rows) (λ m. is_mark_of s n m ≡ false) (λ m k. by_cases m k (same_stream m.stream s) refl (nat_eq m.chunk n) refl) marks h where
  by_cases : (m : Mark) → Known rows m → (a : Bool) → same_stream m.stream s ≡ a → (b : Bool) → nat_eq m.chunk n ≡ b → (a && b) ≡ false
  by_cases m k true same true this =
      let below : m.chunk < n = subst (λ c. m.chunk < c) (sym is) (subst (λ t. m.chunk < count_of rows t) (stream_same m.stream s same) k) in
      absurd (grind (arith, nat_tests))
  by_cases m k true same false this = refl
  by_cases m k false same b this = refl

module _ (rules : Rules) (s : StreamKey) (now : ℕ) where
  more_rows : (r : Row) (rows : List Row) (t : StreamKey) → count_of rows t ≤ count_of (r ∷ rows) t
  more_rows r rows t = by_cases (same_stream r.stream t) where
    by_cases : (b : Bool) → length (rows_of t rows) ≤ length (cond b (r ∷ rows_of t rows) (rows_of t rows))
    by_cases true = omega arith
    by_cases false = omega arith

  new_marked : (r : Row) (rows : List Row) (marks : List Mark) → r.stream ≡ s → IsMarked (record { rows = rows; marks = marks })
      → IsMarked (record { rows = r ∷ rows; marks = record { stream = s; chunk = count_of rows s; last_update = now; reason = None } ∷ marks })
  new_marked r rows marks of_s h =
      let n = count_of rows s in
      let new : Mark = record { stream = s; chunk = n; last_update = now; reason = None } in
      let grown : IsMarked (record { rows = r ∷ rows; marks = marks }) = rows_marked rows (r ∷ rows) marks (more_rows r rows) h in
      let none : length (filter (is_mark_of s n) marks) ≡ 0 = ap length (filter_none (is_mark_of s n) marks (none_next s n marks rows refl h.known)) in
      let counted : count_of (r ∷ rows) s ≡ length (r ∷ rows_of s rows) = ap (λ b. length (cond b (r ∷ rows_of s rows) (rows_of s rows))) (ap (λ t. same_stream t s) of_s ∙ stream_self s) in
      let last : n < count_of (r ∷ rows) s = subst (λ k. n < k) (sym counted) (omega arith) in
      record { one = λ t c. by_cases t c (same_stream s t) refl (nat_eq n c) refl none; known = All-cons (Known (r ∷ rows)) new marks last grown.known } where
        by_cases : (t : StreamKey) (c : ℕ) (a : Bool) → same_stream s t ≡ a → (b : Bool) → nat_eq (count_of rows s) c ≡ b → length (filter (is_mark_of s (count_of rows s)) marks) ≡ 0
            → length (cond (a && b) (record { stream = s; chunk = count_of rows s; last_update = now; reason = None } ∷ filter (is_mark_of t c) marks) (filter (is_mark_of t c) marks)) ≤ 1
        by_cases t c true same true this none =
            let number : count_of rows s ≡ c = grind (arith, nat_tests) in
            let empty : length (filter (is_mark_of t c) marks) ≡ 0 = subst (λ k. length (filter (is_mark_of t k) marks) ≡ 0) number (subst (λ u. length (filter (is_mark_of u (count_of rows s)) marks) ≡ 0) (stream_same s t same) none) in
            omega arith
        by_cases t c true same false this none = h.one t c
        by_cases t c false same b this none = h.one t c

  added_marked : (e : Entry) (old : State) → IsMarked old → IsMarked (added old s e now)
  added_marked e old h = by_cases (list_any (is_growing s) old.marks) where
    by_cases : (b : Bool) → IsMarked (record {
      rows = (added old s e now).rows;
      marks = cond b (map (λ m. cond (is_growing s m) (record m { last_update = now }) m) old.marks) (record { stream = s; chunk = count_of old.rows s; last_update = now; reason = None } ∷ old.marks);
    })
    by_cases true =
        marks_marked (λ m. cond (is_growing s m) (record m { last_update = now }) m)
        (cond_keeps (is_growing s) (λ m. record m { last_update = now }) (record { stream = λ m. refl; chunk = λ m. refl }))
        (added old s e now).rows old.marks (rows_marked old.rows (added old s e now).rows old.marks (more_rows _ old.rows) h)
    by_cases false = new_marked _ old.rows old.marks refl h

  cut_marked : (chunk : ℕ) (st : State) → IsMarked st → IsMarked (cut rules s chunk st)
  cut_marked chunk st h = cond_marked _ _ st (moved_marked (in_head s chunk) Block st.rows st.marks h) h

  filled_marked : (chunk : ℕ) (st : State) → IsMarked st → IsMarked (filled rules s chunk st)
  filled_marked chunk st h =
      let seal : Mark → Mark = λ m. cond (is_mark_of s chunk m) (record m { reason = Some Full }) m in
      cond_marked _ _ st
      (moved_marked (in_head s chunk) Block st.rows (map seal st.marks)
      (marks_marked seal (cond_keeps (is_mark_of s chunk) (λ m. record m { reason = Some Full }) (record { stream = λ m. refl; chunk = λ m. refl })) st.rows st.marks h)) h

  pub accepted_marked : (e : Entry) (old : State) → IsMarked old → IsMarked (accepted rules s e now old)
  accepted_marked e old h =
      let chunk = chunk_for old s in
      filled_marked chunk (cut rules s chunk (added old s e now)) (cut_marked chunk (added old s e now) (added_marked e old h))

  pub entry_marked : (e : Entry) (v : Verdict) (old : State) → IsMarked old → IsMarked (after_entry rules s e now v old)
  entry_marked e v old h = cond_marked (is_some (accepted_number v)) _ old (accepted_marked e old h) h

  pub turns_marked : (es : List Entry) (old : State) → IsMarked old → IsMarked (accepted_in_turn (count_of old.rows s) rules s now es old)
  turns_marked [] old h = h
  turns_marked (e ∷ es) old h = subst IsMarked (next_is rules s now e es old) (turns_marked es (accepted rules s e now old) (accepted_marked e old h))

  pub push_marked : (es : List Entry) (old : State) → IsMarked old → IsMarked (after_push rules s now es old)
  push_marked es old h =
      subst IsMarked (sym (pushed_in_turn rules s now es old)) (turns_marked (accepted_among es (verdicts_of rules s now es old)) old h)

-- ---- seals, another order, and parts

given_keeps : (why : Mark → Option SealReason) → KeepsChunk (seal_mark why)
given_keeps why = record { stream = λ m. stream_at (seal_of why m) m; chunk = λ m. chunk_at (seal_of why m) m } where
  stream_at : (o : Option SealReason) (m : Mark) → (given o m).stream ≡ m.stream
  stream_at None m = refl
  stream_at (Some reason) m = refl

  chunk_at : (o : Option SealReason) (m : Mark) → (given o m).chunk ≡ m.chunk
  chunk_at None m = refl
  chunk_at (Some reason) m = refl

pub seal_marked : (why : Mark → Option SealReason) (st : State) → IsMarked st → IsMarked (sealed_by why st)
seal_marked why st h =
    moved_marked (λ r. is_head r.place && is_sealed_now why st.marks r) Block st.rows (map (seal_mark why) st.marks)
    (marks_marked (seal_mark why) (given_keeps why) st.rows st.marks h)

pub order_marked : (a b : State) → IsMarked a → IsSame a b → IsMarked b
order_marked a b h same =
    record {
      one = λ t c. subst (λ n. n ≤ 1) (count_reordered (is_mark_of t c) a.marks b.marks same.marks) (h.one t c);
      known =
          All-permutation (Known b.rows) a.marks b.marks same.marks
          (All-weaker (Known a.rows) (Known b.rows) (λ m k. subst (λ n. m.chunk < n) (count_reordered (λ r. same_stream r.stream m.stream) a.rows b.rows same.rows) k) a.marks h.known);
    }

pub empty_marked : IsMarked empty_state
empty_marked = record { one = λ t c. omega arith; known = All-nil (Known []) }

module _ (a b : State) (apart : All (λ m. All (λ k. is_mark_of m.stream m.chunk k ≡ false) b.marks) a.marks) (mine : IsMarked a) (others : IsMarked b) where
  joined : {X : Type 0} (p : X → Bool) (xs ys : List X) → length (filter p (xs ++ ys)) ≡ length (filter p xs) + length (filter p ys)
  joined p xs ys = ap length (filter_joined p xs ys) ∙ length-append (filter p xs) (filter p ys)

  either : (t : StreamKey) (c : ℕ) → (length (filter (is_mark_of t c) a.marks) ≡ 0) ⊎ (length (filter (is_mark_of t c) b.marks) ≡ 0)
  either t c =
      alone (is_mark_of t c) (λ m. All (λ k. is_mark_of m.stream m.chunk k ≡ false) b.marks)
      (λ m is none. let two = and_true (same_stream m.stream t) (nat_eq m.chunk c) is in
      ap length (filter_none (is_mark_of t c) b.marks
      (subst (λ u. All (λ k. is_mark_of u c k ≡ false) b.marks) (stream_same m.stream t two.0) (subst (λ n. All (λ k. is_mark_of m.stream n k ≡ false) b.marks) (same_number m.chunk c two.1) none)))) a.marks apart where
        same_number : (m n : ℕ) → nat_eq m n ≡ true → m ≡ n
        same_number m n h = grind (arith, nat_tests)

  few : (m n : ℕ) → (m ≡ 0) ⊎ (n ≡ 0) → m ≤ 1 → n ≤ 1 → m + n ≤ 1
  few m n (inl none) h k = omega arith
  few m n (inr none) h k = omega arith

  pub parts_marked : IsMarked (beside a b)
  parts_marked =
      record {
        one = λ t c. subst (λ n. n ≤ 1) (sym (joined (is_mark_of t c) a.marks b.marks)) (few (length (filter (is_mark_of t c) a.marks)) (length (filter (is_mark_of t c) b.marks)) (either t c) (mine.one t c) (others.one t c));
        known =
            All-append (Known (a.rows ++ b.rows)) a.marks b.marks
            (All-weaker (Known a.rows) (Known (a.rows ++ b.rows)) (more_known a.rows (a.rows ++ b.rows) front) a.marks mine.known)
            (All-weaker (Known b.rows) (Known (a.rows ++ b.rows)) (more_known b.rows (a.rows ++ b.rows) rear) b.marks others.known);
      } where
        front : (t : StreamKey) → count_of a.rows t ≤ count_of (a.rows ++ b.rows) t
        front t = let sum : count_of (a.rows ++ b.rows) t ≡ count_of a.rows t + count_of b.rows t = joined (λ r. same_stream r.stream t) a.rows b.rows in omega arith

        rear : (t : StreamKey) → count_of b.rows t ≤ count_of (a.rows ++ b.rows) t
        rear t = let sum : count_of (a.rows ++ b.rows) t ≡ count_of a.rows t + count_of b.rows t = joined (λ r. same_stream r.stream t) a.rows b.rows in omega arith
