-- A sealed chunk that changes its place, beside the others of its stream.
use Rattle.std.proofs.Common.{◌≡◌, ◌≢◌, ℕ, ◌+◌, ◌<◌, Bool, true, false, not, cond, ◌&&◌, List, [], ◌∷◌, ◌++◌, length, map, filter, refl, sym, ap, subst, ◌∙◌, ⊎_elim, arith, nat_eq, is_some, length-append}
use Rattle.std.specs.Prelude.{All, Any, IsPermutation}
use Rattle.std.proofs.lemmas.Bool.{and_right, both_ways, eq-eqb, false_from_ne_true, ne_eqb}
use Rattle.std.proofs.lemmas.Slice.Eq.{bytes_eq-Decides}
use Rattle.std.proofs.lemmas.List.{length-map, map-append}
use Rattle.std.proofs.lemmas.List.Elements.{All-nil, All-cons, All-head, All-tail, All-append, All-contains}
use Rattle.std.proofs.lemmas.List.Sorted.{IsPermutation-refl}
use Rattle.ing_rows.specs.declared.place.Place.{Place}
use Rattle.ing_rows.specs.declared.place.Place.TheVariants.{Block, Flight, Stored}
use Rattle.ing_rows.specs.Rows.{StreamKey, Row, Mark, same_stream, is_block, is_flight, is_stored, is_of_chunk, rows_of_chunk}
use Rattle.ing_rows.specs.Steps.{moved, is_mark_of, IsClaimable, Claims, Finishes, GivesBack}
use Rattle.ing_rows.specs.Flushes.{NoneOfChunk, NoneFlies, NoneOlder, NoneMarks, FlushesAreApart}
use Rattle.ing_chunk.specs.declared.numbered.Numbered.{Numbered}
use Rattle.ing_chunk.specs.Chunks.{row_in, block_rows, in_blocks}
use Rattle.ing_sealed.specs.Slots.{Slot, put_at, stored_at, at_place, slot_rows, slot_marks, slot_state, slots_state, count_at, IsSlot, AreRising, NoneInFlight, FlyApart, AreSlots, Changes}
use Rattle.ing_sealed.proofs.PutLaws.{all_there}

-- ---- the same stream, the same number

pub stream_self : (s : StreamKey) → same_stream s s ≡ true
stream_self s = rw ((bytes_eq-Decides s.tenant s.tenant).1 refl) ((bytes_eq-Decides s.name s.name).1 refl)

number_self : (n : ℕ) → nat_eq n n ≡ true
number_self n = eq-eqb n n refl

-- ---- the rows of one chunk

module _ (s : StreamKey) (Q : Row → Type 0) (place : Place) (first : ℕ) (each : (index : ℕ) (e : Numbered) → Q (at_place place (row_in s first index Block e))) where
  in_block : (index : ℕ) (b : List Numbered) → All Q (map (at_place place) (map (row_in s first index Block) b))
  in_block index [] = All-nil Q
  in_block index (e ∷ b) = All-cons Q (at_place place (row_in s first index Block e)) (map (at_place place) (map (row_in s first index Block) b)) (each index e) (in_block index b)

  pub all_placed : (index : ℕ) (bs : List (List Numbered)) → All Q (map (at_place place) (block_rows s first index bs))
  all_placed index [] = All-nil Q
  all_placed index (b ∷ bs) =
      subst (All Q) (sym (map-append (at_place place) (map (row_in s first index Block) b) (block_rows s first (index + 1) bs)))
      (All-append Q (map (at_place place) (map (row_in s first index Block) b)) (map (at_place place) (block_rows s first (index + 1) bs)) (in_block index b) (all_placed (index + 1) bs))

-- as many as it has entries
rows_length : (s : StreamKey) (first index : ℕ) (bs : List (List Numbered)) → length (block_rows s first index bs) ≡ length (in_blocks bs)
rows_length s first index [] = refl
rows_length s first index (b ∷ bs) =
    length-append (map (row_in s first index Block) b) (block_rows s first (index + 1) bs)
    ∙ (λ i. length-map b (row_in s first index Block) i + rows_length s first (index + 1) bs i)
    ∙ sym (length-append b (in_blocks bs))

pub slot_length : (s : StreamKey) (x : Slot) → length (slot_rows s x) ≡ count_at x
slot_length s x = length-map (block_rows s x.first 0 x.blocks) (at_place x.place) ∙ rows_length s x.first 0 x.blocks

-- rows that all pass
filter_all : {X : Type 0} (p : X → Bool) (xs : List X) → All (λ x. p x ≡ true) xs → filter p xs ≡ xs
filter_all p [] h = refl
filter_all p (x ∷ xs) h = ap (λ b. cond b (x ∷ filter p xs) (filter p xs)) (All-head (λ y. p y ≡ true) x xs h) ∙ ap (λ l. x ∷ l) (filter_all p xs (All-tail (λ y. p y ≡ true) x xs h))

moved_all : (test : Row → Bool) (p q : Place) (rows : List Row) → All (λ r. test r ≡ true) (map (at_place q) rows) → moved test p (map (at_place q) rows) ≡ map (at_place p) rows
moved_all test p q [] h = refl
moved_all test p q (r ∷ rows) h =
    λ i. cond (All-head (λ y. test y ≡ true) (at_place q r) (map (at_place q) rows) h i) (at_place p r) (at_place q r)
    ∷ moved_all test p q rows (All-tail (λ y. test y ≡ true) (at_place q r) (map (at_place q) rows) h) i

module _ (s : StreamKey) (x : Slot) where
  all_of_chunk : All (λ r. is_of_chunk s x.first r ≡ true) (slot_rows s x)
  all_of_chunk = all_placed s (λ r. is_of_chunk s x.first r ≡ true) x.place x.first (λ index e. rw (stream_self s) (number_self x.first)) 0 x.blocks

  pub none_of_other : (c : ℕ) → x.first ≢ c → NoneOfChunk s c (slot_state s x)
  none_of_other c h = all_placed s (λ r. is_of_chunk s c r ≡ false) x.place x.first (λ index e. and_right (same_stream s s) _ (ne_eqb x.first c h)) 0 x.blocks

  pub none_in_other : (f : ℕ) → is_flight f x.place ≡ false → NoneFlies f (slot_state s x)
  none_in_other f h = all_placed s (λ r. is_flight f r.place ≡ false) x.place x.first (λ index e. h) 0 x.blocks

  all_at : (P : Place → Type 0) → P x.place → All (λ r. P r.place) (slot_rows s x)
  all_at P h = all_placed s (λ r. P r.place) x.place x.first (λ index e. h) 0 x.blocks

  chunk_rows : rows_of_chunk s x.first (slot_rows s x) ≡ slot_rows s x
  chunk_rows = filter_all (is_of_chunk s x.first) (slot_rows s x) all_of_chunk

  some_rows : IsSlot x → slot_rows s x ≢ []
  some_rows h none =
      let some : 0 < count_at x = h.some in
      let many : length (slot_rows s x) ≡ count_at x = slot_length s x in
      let no : length (slot_rows s x) ≡ 0 = ap length none in
      absurd (omega arith)

-- no element of a list that has one passes and fails
not_both : {X : Type 0} (p : X → Bool) (xs : List X) → xs ≢ [] → All (λ x. p x ≡ true) xs → All (λ x. p x ≡ false) xs → ⊥
not_both p [] some passes fails = absurd (some refl)
not_both p (x ∷ xs) some passes fails = let h = All-head (λ y. p y ≡ true) x xs passes in let k = All-head (λ y. p y ≡ false) x xs fails in absurd (cc)

-- ---- one chunk alone

module _ (s : StreamKey) (x : Slot) where
  marks_first : (b : Bool) → All (λ (m : Mark). m.chunk ≡ x.first) (cond b [] (record { stream = s; chunk = x.first; last_update = x.last_update; reason = x.reason } ∷ []))
  marks_first true = All-nil (λ (m : Mark). m.chunk ≡ x.first)
  marks_first false = All-cons (λ (m : Mark). m.chunk ≡ x.first) _ [] refl (All-nil (λ (m : Mark). m.chunk ≡ x.first))

  -- one that can be claimed has its number
  pub claimable_first : (other : ℕ) → IsClaimable (slot_state s x) s other → x.first ≡ other
  claimable_first other h = sym (All-contains (λ (m : Mark). m.chunk ≡ x.first) (slot_marks s x) h.0.0 (marks_first (is_stored x.place)) h.0.1) ∙ h.0.3

  -- one that stands elsewhere than in blocks can't be claimed
  pub not_claimable : IsSlot x → is_block x.place ≡ false → (other : ℕ) → IsClaimable (slot_state s x) s other → ⊥
  not_claimable is away other h =
      let blocks : All (λ r. is_block r.place ≡ true) (slot_rows s x) =
      subst (All (λ r. is_block r.place ≡ true)) (ap (λ c. rows_of_chunk s c (slot_rows s x)) (sym (claimable_first other h)) ∙ chunk_rows s x) h.1 in
      not_both (λ (r : Row). is_block r.place) (slot_rows s x) (some_rows s x is) blocks (all_at s x (λ p. is_block p ≡ false) away)

module _ (s : StreamKey) (f : ℕ) (x : Slot) where
  pub claims_alone : is_some x.reason ≡ true → Claims s x.first f (slot_state s (put_at Block x)) (slot_state s (put_at (Flight f) x))
  claims_alone sealed =
      let m : Mark = record { stream = s; chunk = x.first; last_update = x.last_update; reason = x.reason } in
      record {
        claimable = (
          (m, (0, omega arith, refl), refl, refl, sealed),
          subst (All (λ r. is_block r.place ≡ true)) (sym (chunk_rows s (put_at Block x))) (all_at s (put_at Block x) (λ p. is_block p ≡ true) refl),
        );
        oldest = λ other h. let same = claimable_first s (put_at Block x) other h in omega (arith, same);
        unused = all_at s (put_at Block x) (λ p. is_flight f p ≡ false) refl;
        moves = record {
          rows = subst (IsPermutation (slot_rows s (put_at (Flight f) x))) (sym (moved_all (is_of_chunk s x.first) (Flight f) Block (block_rows s x.first 0 x.blocks) (all_of_chunk s (put_at Block x)))) (IsPermutation-refl (slot_rows s (put_at (Flight f) x)));
          marks = IsPermutation-refl (m ∷ []);
        };
      }

  pub finishes_alone : (key : List ℕ) → IsSlot (put_at (Flight f) x) → Finishes s x.first f key (slot_state s (put_at (Flight f) x)) (slot_state s (stored_at key x))
  finishes_alone key is =
      let rows = chunk_rows s (put_at (Flight f) x) in
      let flies : All (λ r. is_flight f r.place ≡ true) (slot_rows s (put_at (Flight f) x)) = all_at s (put_at (Flight f) x) (λ p. is_flight f p ≡ true) (number_self f) in
      record {
        flies = subst (All (λ r. is_flight f r.place ≡ true)) (sym rows) flies;
        some = subst (λ l. l ≢ []) (sym rows) (some_rows s (put_at (Flight f) x) is);
        stores = record {
          rows = subst (IsPermutation (slot_rows s (stored_at key x))) (sym (moved_all (λ r. is_flight f r.place) (Stored key) (Flight f) (block_rows s x.first 0 x.blocks) flies)) (IsPermutation-refl (slot_rows s (stored_at key x)));
          marks = subst (IsPermutation []) (sym no_marks) (IsPermutation-refl []);
        };
      } where
        no_marks : filter (λ m. not (is_mark_of s x.first m)) (slot_marks s (put_at (Flight f) x)) ≡ []
        no_marks =
            let own : (same_stream s s && nat_eq x.first x.first) ≡ true = rw (stream_self s) (number_self x.first) in
            ap (λ b. cond (not b) (record { stream = s; chunk = x.first; last_update = x.last_update; reason = x.reason } ∷ []) []) own

  pub backs_alone : IsSlot (put_at (Flight f) x) → GivesBack f (slot_state s (put_at (Flight f) x)) (slot_state s (put_at Block x))
  backs_alone is =
      let flies : All (λ r. is_flight f r.place ≡ true) (slot_rows s (put_at (Flight f) x)) = all_at s (put_at (Flight f) x) (λ p. is_flight f p ≡ true) (number_self f) in
      record {
        flies = any_of (λ r. is_flight f r.place ≡ true) (slot_rows s (put_at (Flight f) x)) (some_rows s (put_at (Flight f) x) is) flies;
        waits = record {
          rows = subst (IsPermutation (slot_rows s (put_at Block x))) (sym (moved_all (λ r. is_flight f r.place) Block (Flight f) (block_rows s x.first 0 x.blocks) flies)) (IsPermutation-refl (slot_rows s (put_at Block x)));
          marks = IsPermutation-refl (slot_marks s (put_at Block x));
        };
      } where
        any_of : {X : Type 0} (P : X → Type 0) (xs : List X) → xs ≢ [] → All P xs → Any P xs
        any_of P [] h all = absurd (h refl)
        any_of P (r ∷ rs) h all = (0, r, omega arith, refl, All-head P r rs all)

-- ---- beside the others

module _ (apart : FlushesAreApart) (s : StreamKey) where
  -- what holds of each chunk holds of the state of all
  none_of_others : (c : ℕ) (xs : List Slot) → All (λ x. x.first ≢ c) xs → NoneOfChunk s c (slots_state s xs)
  none_of_others c [] h = All-nil (λ r. is_of_chunk s c r ≡ false)
  none_of_others c (x ∷ xs) h =
      All-append (λ r. is_of_chunk s c r ≡ false) (slot_rows s x) (slots_state s xs).rows (none_of_other s x c (All-head (λ (y : Slot). y.first ≢ c) x xs h))
      (none_of_others c xs (All-tail (λ (y : Slot). y.first ≢ c) x xs h))

  pub none_in_others : (f : ℕ) (xs : List Slot) → NoneInFlight f xs → NoneFlies f (slots_state s xs)
  none_in_others f [] h = All-nil (λ r. is_flight f r.place ≡ false)
  none_in_others f (x ∷ xs) h =
      All-append (λ r. is_flight f r.place ≡ false) (slot_rows s x) (slots_state s xs).rows (none_in_other s x f (All-head (λ (y : Slot). is_flight f y.place ≡ false) x xs h))
      (none_in_others f xs (All-tail (λ (y : Slot). is_flight f y.place ≡ false) x xs h))

  marks_other : (c : ℕ) (x : Slot) → x.first ≢ c → (b : Bool) → All (λ m. is_mark_of s c m ≡ false) (cond b [] (record { stream = s; chunk = x.first; last_update = x.last_update; reason = x.reason } ∷ []))
  marks_other c x h true = All-nil (λ m. is_mark_of s c m ≡ false)
  marks_other c x h false = All-cons (λ m. is_mark_of s c m ≡ false) _ [] (and_right (same_stream s s) _ (ne_eqb x.first c h)) (All-nil (λ m. is_mark_of s c m ≡ false))

  none_marks : (c : ℕ) (xs : List Slot) → All (λ x. x.first ≢ c) xs → NoneMarks s c (slots_state s xs)
  none_marks c [] h = All-nil (λ m. is_mark_of s c m ≡ false)
  none_marks c (x ∷ xs) h =
      All-append (λ m. is_mark_of s c m ≡ false) (slot_marks s x) (slots_state s xs).marks (marks_other c x (All-head (λ (y : Slot). y.first ≢ c) x xs h) (is_stored x.place))
      (none_marks c xs (All-tail (λ (y : Slot). y.first ≢ c) x xs h))

  -- none that can be claimed is older
  none_older : (c : ℕ) (xs : List Slot) → All (λ x. c < x.first) xs → NoneOlder s c (slots_state s xs)
  none_older c [] h other k = let m = k.0.1 in absurd (omega (arith, m.1))
  none_older c (x ∷ xs) h other k =
      ⊎_elim (λ here. let later = All-head (λ (y : Slot). c < y.first) x xs h in let same = claimable_first s x other here in omega (arith, same))
      (λ there. none_older c xs (All-tail (λ (y : Slot). c < y.first) x xs h) other there)
      (apart.parts s (slot_state s x) (slots_state s xs) other k)

  -- none can be claimed
  pub none_claimable : (xs : List Slot) → All IsSlot xs → All (λ x. is_block x.place ≡ false) xs → (other : ℕ) → IsClaimable (slots_state s xs) s other → ⊥
  none_claimable [] is h other k = let m = k.0.1 in absurd (omega (arith, m.1))
  none_claimable (x ∷ xs) is h other k =
      ⊎_elim (λ here. not_claimable s x (All-head IsSlot x xs is) (All-head (λ (y : Slot). is_block y.place ≡ false) x xs h) other here)
      (λ there. none_claimable xs (All-tail IsSlot x xs is) (All-tail (λ (y : Slot). is_block y.place ≡ false) x xs h) other there)
      (apart.parts s (slot_state s x) (slots_state s xs) other k)

  later_other : (c : ℕ) (xs : List Slot) → All (λ x. c < x.first) xs → All (λ x. x.first ≢ c) xs
  later_other c xs h = λ k d below same. let later = h k d below in absurd (omega (arith, same))

  claims_among : (f : ℕ) (x : Slot) (front back : List Slot) → All IsSlot (front ++ put_at Block x ∷ back) → AreRising (front ++ put_at Block x ∷ back)
      → All (λ y. is_block y.place ≡ false) front → NoneInFlight f (front ++ put_at Block x ∷ back)
      → Claims s x.first f (slots_state s (front ++ put_at Block x ∷ back)) (slots_state s (front ++ put_at (Flight f) x ∷ back))
  claims_among f x [] back is rising older free =
      (apart.claims s x.first f (slot_state s (put_at Block x)) (slot_state s (put_at (Flight f) x)) (slots_state s back)
      (claims_alone s f x ((All-head IsSlot (put_at Block x) back is).sealed refl))
      (none_of_others x.first back (later_other x.first back rising.0))
      (none_in_others f back (All-tail (λ (y : Slot). is_flight f y.place ≡ false) (put_at Block x) back free))
      (none_older x.first back rising.0)).0
  claims_among f x (y ∷ front) back is rising older free =
      let here : y.first < x.first = all_there (λ (z : Slot). y.first < z.first) front (put_at Block x) back rising.0 in
      let other : y.first ≢ x.first = λ same. absurd (omega (arith, same)) in
      let slot = All-head IsSlot y (front ++ put_at Block x ∷ back) is in
      let away = All-head (λ (z : Slot). is_block z.place ≡ false) y front older in
      (apart.claims s x.first f (slots_state s (front ++ put_at Block x ∷ back)) (slots_state s (front ++ put_at (Flight f) x ∷ back)) (slot_state s y)
      (claims_among f x front back (All-tail IsSlot y (front ++ put_at Block x ∷ back) is) rising.1 (All-tail (λ (z : Slot). is_block z.place ≡ false) y front older) (All-tail (λ (z : Slot). is_flight f z.place ≡ false) y (front ++ put_at Block x ∷ back) free))
      (none_of_other s y x.first other)
      (none_in_other s y f (All-head (λ (z : Slot). is_flight f z.place ≡ false) y (front ++ put_at Block x ∷ back) free))
      (λ other k. absurd (not_claimable s y slot away other k))).1

  -- a chunk in front of one in flight is in another flight, or in none
  pub in_front : (f : ℕ) (x y : Slot) (front back : List Slot) → ((g : ℕ) → is_flight g y.place ≡ true → NoneInFlight g (front ++ put_at (Flight f) x ∷ back)) → is_flight f y.place ≡ false
  in_front f x y front back h =
      false_from_ne_true (is_flight f y.place) (λ is. both_ways _ (all_there (λ (z : Slot). is_flight f z.place ≡ false) front (put_at (Flight f) x) back (h f is)) (number_self f))

  finishes_among : (f : ℕ) (key : List ℕ) (x : Slot) (front back : List Slot) → All IsSlot (front ++ put_at (Flight f) x ∷ back) → AreRising (front ++ put_at (Flight f) x ∷ back) → FlyApart (front ++ put_at (Flight f) x ∷ back)
      → Finishes s x.first f key (slots_state s (front ++ put_at (Flight f) x ∷ back)) (slots_state s (front ++ stored_at key x ∷ back))
  finishes_among f key x [] back is rising alone =
      (apart.finishes s x.first f key (slot_state s (put_at (Flight f) x)) (slot_state s (stored_at key x)) (slots_state s back)
      (finishes_alone s f x key (All-head IsSlot (put_at (Flight f) x) back is))
      (none_of_others x.first back (later_other x.first back rising.0))
      (none_in_others f back (alone.0 f (number_self f)))
      (none_marks x.first back (later_other x.first back rising.0))).0
  finishes_among f key x (y ∷ front) back is rising alone =
      let here : y.first < x.first = all_there (λ (z : Slot). y.first < z.first) front (put_at (Flight f) x) back rising.0 in
      let other : y.first ≢ x.first = λ same. absurd (omega (arith, same)) in
      (apart.finishes s x.first f key (slots_state s (front ++ put_at (Flight f) x ∷ back)) (slots_state s (front ++ stored_at key x ∷ back)) (slot_state s y)
      (finishes_among f key x front back (All-tail IsSlot y (front ++ put_at (Flight f) x ∷ back) is) rising.1 alone.1)
      (none_of_other s y x.first other)
      (none_in_other s y f (in_front f x y front back alone.0))
      (marks_other x.first y other (is_stored y.place))).1

  backs_among : (f : ℕ) (x : Slot) (front back : List Slot) → All IsSlot (front ++ put_at (Flight f) x ∷ back) → FlyApart (front ++ put_at (Flight f) x ∷ back)
      → GivesBack f (slots_state s (front ++ put_at (Flight f) x ∷ back)) (slots_state s (front ++ put_at Block x ∷ back))
  backs_among f x [] back is alone =
      (apart.backs f (slot_state s (put_at (Flight f) x)) (slot_state s (put_at Block x)) (slots_state s back)
      (backs_alone s f x (All-head IsSlot (put_at (Flight f) x) back is))
      (none_in_others f back (alone.0 f (number_self f)))).0
  backs_among f x (y ∷ front) back is alone =
      (apart.backs f (slots_state s (front ++ put_at (Flight f) x ∷ back)) (slots_state s (front ++ put_at Block x ∷ back)) (slot_state s y)
      (backs_among f x front back (All-tail IsSlot y (front ++ put_at (Flight f) x ∷ back) is) alone.1)
      (none_in_other s y f (in_front f x y front back alone.0))).1

  -- the same of lists that are made so
  pub claims_as : (f i : ℕ) (x : Slot) (old new : List Slot) → (h : Changes (put_at (Flight f)) i (put_at Block x) old new) → AreSlots old → All (λ y. is_block y.place ≡ false) h.front → NoneInFlight f old
      → Claims s x.first f (slots_state s old) (slots_state s new)
  claims_as f i x old new h slots older free =
      let before = subst AreSlots h.was slots in
      subst (λ (p : List Slot × List Slot). Claims s x.first f (slots_state s p.0) (slots_state s p.1)) (λ i. (sym h.was i, sym h.is i))
      (claims_among f x h.front h.back before.each before.rising older (subst (NoneInFlight f) h.was free))

  pub finishes_as : (f i : ℕ) (key : List ℕ) (x : Slot) (old new : List Slot) → Changes (stored_at key) i (put_at (Flight f) x) old new → AreSlots old → Finishes s x.first f key (slots_state s old) (slots_state s new)
  finishes_as f i key x old new h slots =
      let before = subst AreSlots h.was slots in
      subst (λ (p : List Slot × List Slot). Finishes s x.first f key (slots_state s p.0) (slots_state s p.1)) (λ i. (sym h.was i, sym h.is i))
      (finishes_among f key x h.front h.back before.each before.rising before.apart)

  pub backs_as : (f i : ℕ) (x : Slot) (old new : List Slot) → Changes (put_at Block) i (put_at (Flight f) x) old new → AreSlots old → GivesBack f (slots_state s old) (slots_state s new)
  backs_as f i x old new h slots =
      let before = subst AreSlots h.was slots in
      subst (λ (p : List Slot × List Slot). GivesBack f (slots_state s p.0) (slots_state s p.1)) (λ i. (sym h.was i, sym h.is i))
      (backs_among f x h.front h.back before.each before.apart)
