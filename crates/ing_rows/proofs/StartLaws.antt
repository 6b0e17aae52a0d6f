-- A stream's chunks begin one by one with their marks.
use Rattle.std.proofs.Common.{◌≡◌, ℕ, ◌<◌, Bool, true, false, cond, ◌&&◌, ◌||◌, List, [], ◌∷◌, length, map, filter, find, refl, sym, ap, subst, ◌∙◌, arith, nat_eq, Some, None}
use Rattle.std.specs.Prelude.{All, is_none}
use Rattle.std.specs.List.{list_any}
use Rattle.std.specs.Option.{option_map, unwrap_or}
use Rattle.std.proofs.lemmas.Bool.Decides.{nat_tests}
use Rattle.std.proofs.lemmas.List.Elements.{All-head, All-tail, All-weaker}
use Rattle.ing_rows.specs.declared.entry.Entry.{Entry}
use Rattle.ing_rows.specs.declared.place.Place.{Place}
use Rattle.ing_rows.specs.declared.place.Place.TheVariants.{Block}
use Rattle.ing_rows.specs.declared.place.SealReason.TheVariants.{Full}
use Rattle.ing_rows.specs.declared.rules.Rules.{Rules}
use Rattle.ing_rows.specs.Rows.{StreamKey, Row, Mark, State, same_stream, count_of, chunk_starts}
use Rattle.ing_rows.specs.Steps.{moved, is_growing, is_mark_of, in_head, chunk_at, chunk_for, added, cut, accepted, accepted_in_turn}
use Rattle.ing_rows.specs.Turns.{BeginsWithMarks, IsMarked}
use Rattle.ing_rows.proofs.Keys.{stream_same, stream_self}
use Rattle.ing_rows.proofs.SoundLaws.{count_mapped}
use Rattle.ing_rows.proofs.MarkLaws.{accepted_marked}
use Rattle.ing_rows.proofs.TurnLaws.{next_is}

-- ---- where the next entry goes

abbrev IsBelow : StreamKey → ℕ → Mark → Type 0
IsBelow s n m = same_stream m.stream s ≡ true → m.chunk < n

both_true : (a b : Bool) → (a && b) ≡ true → a ≡ true
both_true true b h = refl
both_true false b h = h

below_case : (s : StreamKey) (n : ℕ) (m : Mark) (ms : List Mark) (b : Bool) → is_growing s m ≡ b → IsBelow s n m → (list_any (is_growing s) ms ≡ true → chunk_at s n ms < n) → (b || list_any (is_growing s) ms) ≡ true
    → unwrap_or (option_map (λ k. k.chunk) (cond b (Some m) (find (is_growing s) ms))) n < n
below_case s n m ms true first below rest some = below (both_true (same_stream m.stream s) (is_none m.reason) first)
below_case s n m ms false first below rest some = rest some

-- the growing chunk begins before it
chunk_below : (s : StreamKey) (n : ℕ) (marks : List Mark) → All (IsBelow s n) marks → list_any (is_growing s) marks ≡ true → chunk_at s n marks < n
chunk_below s n [] below some = absurd (cc)
chunk_below s n (m ∷ ms) below some = below_case s n m ms (is_growing s m) refl (All-head (IsBelow s n) m ms below) (chunk_below s n ms (All-tail (IsBelow s n) m ms below)) some

new_case : (s : StreamKey) (n : ℕ) (m : Mark) (ms : List Mark) (b : Bool) → (list_any (is_growing s) ms ≡ false → chunk_at s n ms ≡ n) → (b || list_any (is_growing s) ms) ≡ false
    → unwrap_or (option_map (λ k. k.chunk) (cond b (Some m) (find (is_growing s) ms))) n ≡ n
new_case s n m ms true rest none = absurd (cc)
new_case s n m ms false rest none = rest none

-- where none grows it begins one
chunk_new : (s : StreamKey) (n : ℕ) (marks : List Mark) → list_any (is_growing s) marks ≡ false → chunk_at s n marks ≡ n
chunk_new s n [] none = refl
chunk_new s n (m ∷ ms) none = new_case s n m ms (is_growing s m) (chunk_new s n ms) none

-- ---- one more entry

of_stream : StreamKey → Mark → Bool
of_stream s m = same_stream m.stream s

is_start : StreamKey → Row → Bool
is_start s r = same_stream r.stream s && nat_eq r.number r.chunk

unequal : (n c : ℕ) → c < n → nat_eq n c ≡ false
unequal n c less = by_test (nat_eq n c) refl where
  by_test : (b : Bool) → nat_eq n c ≡ b → b ≡ false
  by_test true same = absurd (grind (arith, nat_tests))
  by_test false same = refl

module _ (rules : Rules) (s : StreamKey) (now : ℕ) where
  added_case : (e : Entry) (old : State) → IsMarked old → BeginsWithMarks s old → (b : Bool) → list_any (is_growing s) old.marks ≡ b
      → (r : Row) → r.stream ≡ s → r.number ≡ count_of old.rows s → r.chunk ≡ chunk_at s (count_of old.rows s) old.marks
      → length (chunk_starts s (r ∷ old.rows))
      ≡ length (filter (λ m. same_stream m.stream s) (cond b (map (λ m. cond (is_growing s m) (record m { last_update = now }) m) old.marks) (record { stream = s; chunk = count_of old.rows s; last_update = now; reason = None } ∷ old.marks)))
  added_case e old marked begins true grows r of_s number chunk =
      let n = count_of old.rows s in
      let known : All (IsBelow s n) old.marks = All-weaker (λ m. m.chunk < count_of old.rows m.stream) (IsBelow s n) (λ m k same. subst (λ t. m.chunk < count_of old.rows t) (stream_same m.stream s same) k) old.marks marked.known in
      let less : chunk_at s n old.marks < n = chunk_below s n old.marks known grows in
      let no_start : (same_stream r.stream s && nat_eq r.number r.chunk) ≡ false =
      (λ i. same_stream (of_s i) s && nat_eq (number i) (chunk i)) ∙ ap (λ b. same_stream s s && b) (unequal n (chunk_at s n old.marks) less) ∙ ap (λ b. b && false) (stream_self s) in
      ap (λ b. length (cond b (r ∷ chunk_starts s old.rows) (chunk_starts s old.rows))) no_start
      ∙ begins
      ∙ sym (count_mapped (λ m. same_stream m.stream s) (λ m. cond (is_growing s m) (record m { last_update = now }) m) (λ m. updated m (is_growing s m)) old.marks) where
        updated : (m : Mark) (b : Bool) → same_stream (cond b (record m { last_update = now }) m).stream s ≡ same_stream m.stream s
        updated m true = refl
        updated m false = refl
  added_case e old marked begins false grows r of_s number chunk =
      let n = count_of old.rows s in
      let new : Mark = record { stream = s; chunk = n; last_update = now; reason = None } in
      let same : nat_eq n n ≡ true = grind (arith, nat_tests) in
      let start : (same_stream r.stream s && nat_eq r.number r.chunk) ≡ true =
      (λ i. same_stream (of_s i) s && nat_eq (number i) ((chunk ∙ chunk_new s n old.marks grows) i)) ∙ ap (λ b. same_stream s s && b) same ∙ ap (λ b. b && true) (stream_self s) in
      let more : ◌≡◌ {A = ℕ} (length (r ∷ chunk_starts s old.rows)) (length (new ∷ filter (λ m. same_stream m.stream s) old.marks)) = omega (arith, begins) in
      ap (λ b. length (cond b (r ∷ chunk_starts s old.rows) (chunk_starts s old.rows))) start
      ∙ more
      ∙ sym (ap (λ b. length (cond b (new ∷ filter (λ m. same_stream m.stream s) old.marks) (filter (λ m. same_stream m.stream s) old.marks))) (stream_self s))

  added_begins : (e : Entry) (old : State) → IsMarked old → BeginsWithMarks s old → BeginsWithMarks s (added old s e now)
  added_begins e old marked begins = added_case e old marked begins (list_any (is_growing s) old.marks) refl _ refl refl refl

  -- places and reasons do not count
  moved_begins : (test : Row → Bool) (place : Place) (rows : List Row) → length (chunk_starts s (moved test place rows)) ≡ length (chunk_starts s rows)
  moved_begins test place rows = count_mapped (λ r. same_stream r.stream s && nat_eq r.number r.chunk) (λ r. cond (test r) (record r { place = place }) r) (λ r. placed r (test r)) rows where
    placed : (r : Row) (b : Bool) → (same_stream (cond b (record r { place = place }) r).stream s && nat_eq (cond b (record r { place = place }) r).number (cond b (record r { place = place }) r).chunk) ≡ (same_stream r.stream s && nat_eq r.number r.chunk)
    placed r true = refl
    placed r false = refl

  marked_begins : (chunk : ℕ) (marks : List Mark) → length (filter (λ m. same_stream m.stream s) (map (λ m. cond (is_mark_of s chunk m) (record m { reason = Some Full }) m) marks)) ≡ length (filter (λ m. same_stream m.stream s) marks)
  marked_begins chunk marks = count_mapped (λ m. same_stream m.stream s) (λ m. cond (is_mark_of s chunk m) (record m { reason = Some Full }) m) (λ m. given m (is_mark_of s chunk m)) marks where
    given : (m : Mark) (b : Bool) → same_stream (cond b (record m { reason = Some Full }) m).stream s ≡ same_stream m.stream s
    given m true = refl
    given m false = refl

  cond_begins : (b : Bool) (x y : State) → BeginsWithMarks s x → BeginsWithMarks s y → BeginsWithMarks s (cond b x y)
  cond_begins true x y h k = h
  cond_begins false x y h k = k

  accepted_begins : (e : Entry) (old : State) → IsMarked old → BeginsWithMarks s old → BeginsWithMarks s (accepted rules s e now old)
  accepted_begins e old marked begins =
      let chunk = chunk_for old s in
      let grown = added old s e now in
      let grown_begins = added_begins e old marked begins in
      let closed = cut rules s chunk grown in
      let closed_begins : BeginsWithMarks s closed = cond_begins _ _ grown (moved_begins (in_head s chunk) Block grown.rows ∙ grown_begins) grown_begins in
      cond_begins _ _ closed (moved_begins (in_head s chunk) Block closed.rows ∙ closed_begins ∙ sym (marked_begins chunk closed.marks)) closed_begins

  pub turns_begin : (es : List Entry) (old : State) → IsMarked old → BeginsWithMarks s old → BeginsWithMarks s (accepted_in_turn (count_of old.rows s) rules s now es old)
  turns_begin [] old marked begins = begins
  turns_begin (e ∷ es) old marked begins = subst (BeginsWithMarks s) (next_is rules s now e es old) (turns_begin es (accepted rules s e now old) (accepted_marked rules s now e old marked) (accepted_begins e old marked begins))
