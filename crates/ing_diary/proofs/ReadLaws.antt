-- What was read of parts and of streams, as notes.
use Rattle.std.proofs.Common.{◌≡◌, ◌+◌, ◌<◌, ◌≤◌, ℕ, zero, suc, Bool, true, false, cond, ◌&&◌, nat_eq, nat_le, List, [], ◌∷◌, ◌++◌, filter, length, length-append, map, append-nil, take, Some, None, refl, ap, sym, subst, ◌∙◌, arith}
use Rattle.std.specs.Option.{option_map}
use Rattle.std.specs.Prelude.{IfOk, IfSome, IsPermutation, Ok, Err, Option, Result, slice_get}
use Rattle.std.specs.List.{AllByRecursion, flat_map}
use Rattle.std.proofs.lemmas.Bool.Decides.{nat_tests}
use Rattle.std.proofs.lemmas.List.{map-append}
use Rattle.std.proofs.lemmas.List.Elements.{filter-append}
use Rattle.std.proofs.lemmas.Grind.{flat_map-append}
use Rattle.std.proofs.lemmas.List.Sorted.{IsPermutation-append_left, IsPermutation-append_right, IsPermutation-map, IsPermutation-refl, IsPermutation-sym, IsPermutation-trans}
use Rattle.ing_chunk.specs.declared.numbered.Numbered.{Numbered}
use Rattle.ing_chunk.specs.Chunks.{in_blocks}
use Rattle.ing_chunk.specs.Parts.{AreParts, IsWithin}
use Rattle.ing_rows.specs.Rows.{Row, StreamKey, rows_of, same_stream}
use Rattle.ing_parts.specs.declared.found.Found.{Found}
use Rattle.ing_parts.specs.declared.snapshot.Part.{Part}
use Rattle.ing_parts.specs.declared.snapshot.Source.{Source}
use Rattle.ing_parts.specs.declared.snapshot.Source.TheVariants.{Block, Stored}
use Rattle.ing_parts.specs.Listings.{Listed}
use Rattle.ing_parts.specs.Parts.{entries_in, found_among, found_at, found_in, found_of}
use Rattle.ing_parts.proofs.Reordered.{filter_reordered}
use Rattle.ing_query.specs.Gathered.{AreAllOf, GivesAllOf}
use Rattle.ing_shard.specs.declared.listed.Listed as shard
use Rattle.ing_diary.specs.Fronts.{came_since, is_from, note_is_from, rows_since}
use Rattle.ing_diary.specs.Notes.{AreRead, AreReadAs, IsReadOf, Note, has_number, has_place, note_of, note_of_found, note_of_numbered, notes_of, numbered_of}
use Rattle.ing_diary.proofs.MovedLaws.{counted_moved}
use Rattle.ing_diary.proofs.NoteLaws.{stream_same, take_next}

-- ---- what was read

counts_both : {X : Type 0} (p : X → Bool) (xs ys : List X) → length (filter p (xs ++ ys)) ≡ length (filter p xs) + length (filter p ys)
counts_both p xs ys = ap length (filter-append p xs ys) ∙ length-append (filter p xs) (filter p ys)

module _ {K X : Type 0} (is_at : K → X → Bool) (honest : Type 0) where
  pub read_itself : (xs : List X) → AreRead is_at honest xs xs
  read_itself xs = record { places = λ k. refl; exact = λ _. IsPermutation-refl xs }

  pub read_moved : (xs ys : List X) → IsPermutation xs ys → AreRead is_at honest xs ys
  read_moved xs ys same = record { places = λ k. sym (counted_moved (is_at k) xs ys same); exact = λ _. same }

  pub read_then : (xs ys zs : List X) → AreRead is_at honest xs ys → AreRead is_at honest ys zs → AreRead is_at honest xs zs
  read_then xs ys zs one two = record {
    places = λ k. one.places k ∙ two.places k;
    exact = λ h. IsPermutation-trans xs ys zs (one.exact h) (two.exact h);
  }

  pub read_both : (xs xs' ys ys' : List X) → AreRead is_at honest xs xs' → AreRead is_at honest ys ys' → AreRead is_at honest (xs ++ ys) (xs' ++ ys')
  read_both xs xs' ys ys' one two = record {
    places = λ k. counts_both (is_at k) xs ys ∙ (λ i. one.places k i + two.places k i) ∙ sym (counts_both (is_at k) xs' ys');
    exact = λ h. IsPermutation-trans (xs ++ ys) (xs' ++ ys) (xs' ++ ys') (IsPermutation-append_left ys xs xs' (one.exact h)) (IsPermutation-append_right xs' ys ys' (two.exact h));
  }

-- ---- one part after another

module _ (honest : Type 0) (front : ℕ) where
  pub parts_next : {R : Type 0} (ps : List (Part R)) (i : ℕ) (p : Part R) (old new : List Numbered) → slice_get ps i ≡ Some p
      → AreRead has_number honest (filter (is_from front) (map numbered_of (found_among (take i ps)))) old
      → AreRead has_number honest (old ++ filter (is_from front) (map numbered_of (found_in p))) new
      → AreRead has_number honest (filter (is_from front) (map numbered_of (found_among (take (suc i) ps)))) new
  parts_next ps i p old new at before more =
      let found = found_among (take i ps) in
      let mine = filter (is_from front) (map numbered_of (found_in p)) in
      let split : filter (is_from front) (map numbered_of (found_among (take (suc i) ps))) ≡ filter (is_from front) (map numbered_of found) ++ mine =
      ap (λ l. filter (is_from front) (map numbered_of (found_among l))) (take_next ps i p at)
      ∙ ap (λ l. filter (is_from front) (map numbered_of l)) (flat_map-append found_in (take i ps) (p ∷ []) ∙ ap (λ l. found ++ l) (append-nil (found_in p)))
      ∙ ap (filter (is_from front)) (map-append numbered_of found (found_in p))
      ∙ filter-append (is_from front) (map numbered_of found) (map numbered_of (found_in p)) in
      subst (λ l. AreRead has_number honest l new) (sym split)
      (read_then has_number honest (filter (is_from front) (map numbered_of found) ++ mine) (old ++ mine) new
      (read_both has_number honest (filter (is_from front) (map numbered_of found)) old mine mine before (read_itself has_number honest mine)) more)

  -- ---- what a part gives

  numbers_again : (name : List ℕ) (es : List Numbered) → map numbered_of (map (found_of name) es) ≡ es
  numbers_again name [] = refl
  numbers_again name (e ∷ es) = ap (λ l. e ∷ l) (numbers_again name es)

  part_places : {R : Type 0} (name : List ℕ) (source : Source R) (found all : List Found) → AreAllOf name source all → IsPermutation all found
      → (k : ℕ) → length (filter (has_number k) (map numbered_of (map (found_of name) (entries_in source)))) ≡ length (filter (has_number k) (map numbered_of found))
  part_places name (Block block) found all is same k =
      ap (λ l. length (filter (has_number k) (map numbered_of l))) (sym is)
      ∙ sym (counted_moved (has_number k) (map numbered_of all) (map numbered_of found) (IsPermutation-map numbered_of all found same))
  part_places name (Stored listing) found all (o, taken, is) same k =
      ap (λ l. length (filter (has_number k) l)) (numbers_again name (in_blocks listing.blocks))
      ∙ sym (taken.numbers k)
      ∙ ap (λ l. length (filter (has_number k) l)) (sym (numbers_again name (in_blocks o.blocks)) ∙ ap (map numbered_of) (sym is))
      ∙ sym (counted_moved (has_number k) (map numbered_of all) (map numbered_of found) (IsPermutation-map numbered_of all found same))

  pub part_read : {R : Type 0} (p : Part R) (found : List Found) → GivesAllOf p.name p.source found → (honest → IsPermutation (found_in p) found)
      → AreRead has_number honest (map numbered_of (found_in p)) (map numbered_of found)
  part_read p found gives exact = record {
    places = part_places p.name p.source found gives.0 gives.1 gives.2;
    exact = λ h. IsPermutation-map numbered_of (found_in p) found (exact h);
  }

  -- those from a number on
  counted_from : (k : ℕ) (es : List Numbered) → length (filter (has_number k) (filter (is_from front) es)) ≡ cond (nat_le front k) (length (filter (has_number k) es)) 0
  counted_from k [] = none (nat_le front k) where
    none : (b : Bool) → ◌≡◌ {A = ℕ} 0 (cond b 0 0)
    none true = refl
    none false = refl
  counted_from k (e ∷ es) = by (nat_le front e.number) (nat_eq e.number k) (nat_le front k) refl refl refl (counted_from k es) where
    by : (late here since : Bool) → nat_le front e.number ≡ late → nat_eq e.number k ≡ here → nat_le front k ≡ since
        → length (filter (has_number k) (filter (is_from front) es)) ≡ cond since (length (filter (has_number k) es)) 0
        → length (filter (has_number k) (cond late (e ∷ filter (is_from front) es) (filter (is_from front) es)))
        ≡ cond since (length (cond here (e ∷ filter (has_number k) es) (filter (has_number k) es))) 0
    by true true true late here since rest = ap (λ b. length (cond b (e ∷ filter (has_number k) (filter (is_from front) es)) (filter (has_number k) (filter (is_from front) es)))) here ∙ ap suc rest
    by true true false late here since rest = absurd (differs late here since) where
      differs : nat_le front e.number ≡ true → nat_eq e.number k ≡ true → nat_le front k ≡ false → ⊥
      differs late here since = grind (arith, nat_tests)
    by true false b late here since rest = ap (λ b. length (cond b (e ∷ filter (has_number k) (filter (is_from front) es)) (filter (has_number k) (filter (is_from front) es)))) here ∙ rest
    by false true true late here since rest = absurd (differs late here since) where
      differs : nat_le front e.number ≡ false → nat_eq e.number k ≡ true → nat_le front k ≡ true → ⊥
      differs late here since = grind (arith, nat_tests)
    by false true false late here since rest = rest
    by false false b late here since rest = rest

  pub read_from : (xs ys : List Numbered) → AreRead has_number honest xs ys → AreRead has_number honest (filter (is_from front) xs) (filter (is_from front) ys)
  read_from xs ys read = record {
    places = λ k. counted_from k xs ∙ ap (λ n. cond (nat_le front k) n 0) (read.places k) ∙ sym (counted_from k ys);
    exact = λ h. filter_reordered (is_from front) xs ys (read.exact h);
  }

-- entries of a part of numbers below one
part_before : (front from n : ℕ) (es : List Numbered) → AllByRecursion (IsWithin from n) es → from + n ≤ front → filter (is_from front) es ≡ []
part_before front from n [] within past = refl
part_before front from n (e ∷ es) within past =
    let late : nat_le front e.number ≡ false = early front from n e.number within.0.high past in
    ap (λ b. cond b (e ∷ filter (is_from front) es) (filter (is_from front) es)) late ∙ part_before front from n es within.1 past where
      early : (front from n m : ℕ) → m < from + n → from + n ≤ front → nat_le front m ≡ false
      early front from n m high past = grind (arith, nat_tests)

pub blocks_before : (front from : ℕ) (bs : List (List Numbered)) → AreParts from bs → from + length (in_blocks bs) ≤ front → filter (is_from front) (in_blocks bs) ≡ []
blocks_before front from [] parts past = refl
blocks_before front from (b ∷ bs) parts past =
    let many = length-append b (in_blocks bs) in
    filter-append (is_from front) b (in_blocks bs)
    ∙ (λ i. part_before front from (length b) b parts.0.within (omega (arith, many, past)) i
    ++ blocks_before front (from + length b) bs parts.1 (omega (arith, many, past)) i)

pub stored_before : (front : ℕ) (name : List ℕ) (listing : Listed) → filter (is_from front) (in_blocks listing.blocks) ≡ []
    → filter (is_from front) (map numbered_of (map (found_of name) (in_blocks listing.blocks))) ≡ []
stored_before front name listing none = ap (filter (is_from front)) (numbers_again Unit front name (in_blocks listing.blocks)) ∙ none

-- ---- notes of what was read

notes_again : (s : StreamKey) (fs : List Found) → notes_of s (map numbered_of fs) ≡ map (note_of_found s) fs
notes_again s [] = refl
notes_again s (f ∷ fs) = ap (λ l. note_of_found s f ∷ l) (notes_again s fs)

notes_from : (s : StreamKey) (front : ℕ) (es : List Numbered) → filter (note_is_from front) (notes_of s es) ≡ notes_of s (filter (is_from front) es)
notes_from s front [] = refl
notes_from s front (e ∷ es) = by (nat_le front e.number) (notes_from s front es) where
  by : (b : Bool) → filter (note_is_from front) (notes_of s es) ≡ notes_of s (filter (is_from front) es)
      → cond b (note_of_numbered s e ∷ filter (note_is_from front) (notes_of s es)) (filter (note_is_from front) (notes_of s es))
      ≡ notes_of s (cond b (e ∷ filter (is_from front) es) (filter (is_from front) es))
  by true rest = ap (λ l. note_of_numbered s e ∷ l) rest
  by false rest = rest

counted_notes : (s t : StreamKey) (k : ℕ) (es : List Numbered) → length (filter (has_place (t, k)) (notes_of s es)) ≡ cond (same_stream s t) (length (filter (has_number k) es)) 0
counted_notes s t k [] = none (same_stream s t) where
  none : (b : Bool) → ◌≡◌ {A = ℕ} 0 (cond b 0 0)
  none true = refl
  none false = refl
counted_notes s t k (e ∷ es) = by (same_stream s t) (nat_eq e.number k) (counted_notes s t k es) where
  by : (mine here : Bool) → length (filter (has_place (t, k)) (notes_of s es)) ≡ cond mine (length (filter (has_number k) es)) 0
      → length (cond (mine && here) (note_of_numbered s e ∷ filter (has_place (t, k)) (notes_of s es)) (filter (has_place (t, k)) (notes_of s es)))
      ≡ cond mine (length (cond here (e ∷ filter (has_number k) es) (filter (has_number k) es))) 0
  by true true rest = ap suc rest
  by true false rest = rest
  by false here rest = rest

pub stream_noted : (honest : Type 0) (s : StreamKey) (front : ℕ) (fs : List Found) (es : List Numbered) → AreRead has_number honest (filter (is_from front) (map numbered_of fs)) es
    → AreReadAs honest (filter (note_is_from front) (map (note_of_found s) fs)) (notes_of s es)
stream_noted honest s front fs es read =
    let mine = filter (is_from front) (map numbered_of fs) in
    let same : notes_of s mine ≡ filter (note_is_from front) (map (note_of_found s) fs) = sym (notes_from s front (map numbered_of fs)) ∙ ap (filter (note_is_from front)) (notes_again s fs) in
    subst (λ l. AreReadAs honest l (notes_of s es)) same (record {
      places = λ k. counted_notes s k.0 k.1 mine ∙ ap (λ n. cond (same_stream s k.0) n 0) (read.places k.1) ∙ sym (counted_notes s k.0 k.1 es);
      exact = λ h. IsPermutation-map (note_of_numbered s) mine es (read.exact h);
    })

-- the notes of a stream's rows that came since
note_rows : (had : StreamKey → ℕ) (s : StreamKey) (rows : List Row)
    → filter (note_is_from (had s)) (map (note_of_found s) (map found_at (rows_of s rows))) ≡ map note_of (rows_of s (rows_since had rows))
note_rows had s [] = refl
note_rows had s (r ∷ rows) = by (same_stream r.stream s) (nat_le (had r.stream) r.number) refl refl (note_rows had s rows) where
  late : List Note → Bool → List Note
  late l b = cond b (note_of_found s (found_at r) ∷ l) l

  by : (mine since : Bool) → same_stream r.stream s ≡ mine → nat_le (had r.stream) r.number ≡ since
      → filter (note_is_from (had s)) (map (note_of_found s) (map found_at (rows_of s rows))) ≡ map note_of (rows_of s (rows_since had rows))
      → filter (note_is_from (had s)) (map (note_of_found s) (map found_at (cond mine (r ∷ rows_of s rows) (rows_of s rows))))
      ≡ map note_of (rows_of s (cond since (r ∷ rows_since had rows) (rows_since had rows)))
  by true true is came rest =
      let same : r.stream ≡ s = stream_same r.stream s is in
      let one : note_of_found s (found_at r) ≡ note_of r = λ i. record { stream = sym same i; number = r.number; entry = r.entry } in
      let mine : nat_le (had s) r.number ≡ true = ap (λ t. nat_le (had t) r.number) (sym same) ∙ came in
      ap (late (filter (note_is_from (had s)) (map (note_of_found s) (map found_at (rows_of s rows))))) mine
      ∙ (λ i. one i ∷ rest i)
      ∙ sym (ap (λ b. map note_of (cond b (r ∷ rows_of s (rows_since had rows)) (rows_of s (rows_since had rows)))) is)
  by true false is came rest =
      let same : r.stream ≡ s = stream_same r.stream s is in
      let mine : nat_le (had s) r.number ≡ false = ap (λ t. nat_le (had t) r.number) (sym same) ∙ came in
      ap (late (filter (note_is_from (had s)) (map (note_of_found s) (map found_at (rows_of s rows))))) mine ∙ rest
  by false true is came rest = rest ∙ sym (ap (λ b. map note_of (cond b (r ∷ rows_of s (rows_since had rows)) (rows_of s (rows_since had rows)))) is)
  by false false is came rest = rest

-- the rows of a stream, where its parts have them
pub rows_read : (honest : Type 0) (had : StreamKey → ℕ) (s : StreamKey) (fs : List Found) (rows : List Row) (noted : List Note) → IsPermutation fs (map found_at (rows_of s rows))
    → AreReadAs honest (filter (note_is_from (had s)) (map (note_of_found s) fs)) noted → AreReadAs honest (map note_of (rows_of s (rows_since had rows))) noted
rows_read honest had s fs rows noted found read =
    let at : List Found → List Note = λ l. filter (note_is_from (had s)) (map (note_of_found s) l) in
    let theirs = at (map found_at (rows_of s rows)) in
    let moved : IsPermutation (at fs) theirs = filter_reordered (note_is_from (had s)) (map (note_of_found s) fs) (map (note_of_found s) (map found_at (rows_of s rows)))
    (IsPermutation-map (note_of_found s) fs (map found_at (rows_of s rows)) found) in
    subst (λ l. AreReadAs honest l noted) (note_rows had s rows)
    (read_then has_place honest theirs (at fs) noted (read_moved has_place honest theirs (at fs) (IsPermutation-sym (at fs) theirs moved)) read)

-- ---- one stream after another

pub streams_next : (honest : Type 0) (rows : List Row) (listed : List StreamKey) (i : ℕ) (all : List (List Note)) (noted : List Note)
    → IsReadOf honest (slice_get listed i) rows noted
    → AreReadAs honest (map note_of (flat_map (λ k. rows_of k rows) (take i listed))) (flat_map (λ n. n) all)
    → AreReadAs honest (map note_of (flat_map (λ k. rows_of k rows) (take (suc i) listed))) (flat_map (λ n. n) (all ++ noted ∷ []))
streams_next honest rows listed i all noted read before = by (slice_get listed i) refl read where
  by : (o : Option StreamKey) → slice_get listed i ≡ o → IsReadOf honest o rows noted
      → AreReadAs honest (map note_of (flat_map (λ k. rows_of k rows) (take (suc i) listed))) (flat_map (λ n. n) (all ++ noted ∷ []))
  by None at read = absurd read
  by (Some s) at read =
      let of_stream : StreamKey → List Row = λ k. rows_of k rows in
      let front = flat_map of_stream (take i listed) in
      let mine = map note_of (rows_of s rows) in
      let split : map note_of (flat_map of_stream (take (suc i) listed)) ≡ map note_of front ++ mine =
      ap (λ l. map note_of (flat_map of_stream l)) (take_next listed i s at)
      ∙ ap (map note_of) (flat_map-append of_stream (take i listed) (s ∷ []) ∙ ap (λ l. front ++ l) (append-nil (rows_of s rows)))
      ∙ map-append note_of front (rows_of s rows) in
      let all_noted : flat_map (λ (n : List Note). n) (all ++ noted ∷ []) ≡ flat_map (λ n. n) all ++ noted =
      flat_map-append (λ (n : List Note). n) all (noted ∷ []) ∙ ap (λ l. flat_map (λ (n : List Note). n) all ++ l) (append-nil noted) in
      subst (λ l. AreReadAs honest l (flat_map (λ n. n) (all ++ noted ∷ []))) (sym split)
      (subst (AreReadAs honest (map note_of front ++ mine)) (sym all_noted)
      (read_both has_place honest (map note_of front) (flat_map (λ (n : List Note). n) all) mine noted before read))

-- the rows that came since, stream by stream
since_of : (had : StreamKey → ℕ) (s : StreamKey) (rows : List Row) → rows_since had (rows_of s rows) ≡ rows_of s (rows_since had rows)
since_of had s [] = refl
since_of had s (r ∷ rows) = by (same_stream r.stream s) (nat_le (had r.stream) r.number) refl refl (since_of had s rows) where
  by : (mine since : Bool) → same_stream r.stream s ≡ mine → nat_le (had r.stream) r.number ≡ since → rows_since had (rows_of s rows) ≡ rows_of s (rows_since had rows)
      → rows_since had (cond mine (r ∷ rows_of s rows) (rows_of s rows)) ≡ rows_of s (cond since (r ∷ rows_since had rows) (rows_since had rows))
  by true true is came rest =
      ap (λ b. cond b (r ∷ rows_since had (rows_of s rows)) (rows_since had (rows_of s rows))) came ∙ ap (λ l. r ∷ l) rest
      ∙ sym (ap (λ b. cond b (r ∷ rows_of s (rows_since had rows)) (rows_of s (rows_since had rows))) is)
  by true false is came rest = ap (λ b. cond b (r ∷ rows_since had (rows_of s rows)) (rows_since had (rows_of s rows))) came ∙ rest
  by false true is came rest = rest ∙ sym (ap (λ b. cond b (r ∷ rows_of s (rows_since had rows)) (rows_of s (rows_since had rows))) is)
  by false false is came rest = rest

each_since : (had : StreamKey → ℕ) (rows : List Row) (listed : List StreamKey) → rows_since had (flat_map (λ s. rows_of s rows) listed) ≡ flat_map (λ s. rows_of s (rows_since had rows)) listed
each_since had rows [] = refl
each_since had rows (s ∷ listed) =
    filter-append (came_since had) (rows_of s rows) (flat_map (λ s. rows_of s rows) listed)
    ∙ (λ i. since_of had s rows i ++ each_since had rows listed i)

pub all_since : (had : StreamKey → ℕ) (rows : List Row) (listed : List StreamKey) → flat_map (λ s. rows_of s rows) listed ≡ rows
    → flat_map (λ s. rows_of s (rows_since had rows)) listed ≡ rows_since had rows
all_since had rows listed whole = sym (each_since had rows listed) ∙ ap (rows_since had) whole

-- a number below that of all streams is listed
pub listed_there : (listed : List StreamKey) (i : ℕ) → i < length listed → slice_get listed i ≡ None → ⊥
listed_there [] i below none = omega (arith, below)
listed_there (s ∷ listed) zero below none = absurd cc
listed_there (s ∷ listed) (suc i) below none = listed_there listed i (omega (arith, below)) none

-- and so is what was read of a listed stream
pub if_read : {E : Type 0} (honest : Type 0) (had : StreamKey → ℕ) (s : StreamKey) (fs : List Found) (rows : List Row) (o : Option StreamKey) (r : Result (List Note) E) → Some s ≡ o
    → IsPermutation fs (map found_at (rows_of s rows)) → IfOk r (λ noted. AreReadAs honest (filter (note_is_from (had s)) (map (note_of_found s) fs)) noted)
    → IfOk r (IsReadOf honest o (rows_since had rows))
if_read honest had s fs rows o (Ok noted) is found read = subst (λ (k : Option StreamKey). IsReadOf honest k (rows_since had rows) noted) is (rows_read honest had s fs rows noted found read)
if_read honest had s fs rows o (Err e) is found read = tt

-- the stream that was listed, and its rows
pub key_listed : {R : Type 0} (l : shard.Listed R) (o : Option (shard.Listed R)) (k : Option StreamKey) → o ≡ Some l → option_map (λ (x : shard.Listed R). record { tenant = x.tenant; name = x.name }) o ≡ k
    → ◌≡◌ {A = Option StreamKey} (Some (record { tenant = l.tenant; name = l.name })) k
key_listed {R} l o k is key = ap (option_map (λ (x : shard.Listed R). record { tenant = x.tenant; name = x.name })) (sym is) ∙ key

pub if_some_is : {X : Type 0} (P : X → Type 0) (o : Option X) (x : X) → o ≡ Some x → IfSome o P → P x
if_some_is P o x is holds = subst (λ p. IfSome p P) is holds
