-- A flush goes chunk by chunk: a claim, a finish and a give back in one part of a state are those of the whole, whatever the
-- order of rows and marks, and keep what holds of a state.
use Rattle.std.proofs.Common.{◌≡◌, ◌≢◌, ◌⊎◌, inl, inr, ℕ, ◌<◌, ◌≤◌, Bool, true, false, not, cond, List, [], ◌∷◌, ◌++◌, length, filter, get_or, refl, sym, ap, subst, ◌∙◌, ⊎_elim, arith}
use Rattle.std.specs.Prelude.{All, Any, IsPermutation}
use Rattle.std.proofs.lemmas.List.Elements.{All-nil, All-cons, All-head, All-tail, All-append, All-filter, Contains-append_left, Contains-append_cases}
use Rattle.std.proofs.lemmas.List.Sorted.{IsPermutation-sym, IsPermutation-trans, IsPermutation-map, IsPermutation-append_comm, IsPermutation-append_left, All-permutation, Contains-permutation, length_permutation}
use Rattle.ing_rows.specs.declared.place.Place.{Place}
use Rattle.ing_rows.specs.declared.place.Place.TheVariants.{Head, Block, Flight, Stored}
use Rattle.ing_rows.specs.Rows.{StreamKey, Row, Mark, State, IsSame, is_block, is_flight, is_stored, is_of_chunk, rows_of_chunk, count_of, has_stream, live_streams}
use Rattle.ing_rows.specs.Facts.{facts_of}
use Rattle.ing_rows.specs.Sound.{IsSound}
use Rattle.ing_rows.specs.Steps.{moved, is_growing, is_mark_of, IsClaimable, Claims, ClaimsNone, Finishes, GivesBack}
use Rattle.ing_rows.specs.Turns.{beside, IsMarked}
use Rattle.ing_rows.specs.Flushes.{FlushesAreApart, FlushesHaveNoOrder, FlushesKeepFacts}
use Rattle.ing_rows.proofs.Reordered.{filter_reordered}
use Rattle.ing_rows.proofs.SoundLaws.{moved_once, order_sound}
use Rattle.ing_rows.proofs.SameLaws.{facts_same}
use Rattle.ing_rows.proofs.FactLaws.{KeepsEntries, SameEntries, StaysStored, entries_kept, facts_kept}
use Rattle.ing_rows.proofs.MarkLaws.{moved_marked, order_marked}
use Rattle.ing_rows.proofs.ApartLaws.{Fails, filter_joined, filter_beside, map_beside}

-- ---- lists of two parts

module _ {X : Type 0} (P : X → Type 0) where
  all_front : (xs ys : List X) → All P (xs ++ ys) → All P xs
  all_front [] ys h = All-nil P
  all_front (x ∷ xs) ys h = All-cons P x xs (All-head P x (xs ++ ys) h) (all_front xs ys (All-tail P x (xs ++ ys) h))

  all_back : (xs ys : List X) → All P (xs ++ ys) → All P ys
  all_back [] ys h = h
  all_back (x ∷ xs) ys h = all_back xs ys (All-tail P x (xs ++ ys) h)

module _ {X : Type 0} (p : X → Bool) where
  rest_kept : (xs : List X) → All (Fails p) xs → filter (λ x. not (p x)) xs ≡ xs
  rest_kept [] h = refl
  rest_kept (x ∷ xs) h =
      ap (λ b. cond (not b) (x ∷ filter (λ y. not (p y)) xs) (filter (λ y. not (p y)) xs)) (All-head (Fails p) x xs h)
      ∙ ap (λ l. x ∷ l) (rest_kept xs (All-tail (Fails p) x xs h))

  rest_beside : (xs ys : List X) → All (Fails p) ys → filter (λ x. not (p x)) (xs ++ ys) ≡ filter (λ x. not (p x)) xs ++ ys
  rest_beside xs ys h = filter_joined (λ x. not (p x)) xs ys ∙ ap (λ l. filter (λ x. not (p x)) xs ++ l) (rest_kept ys h)

any_front : {X : Type 0} (P : X → Type 0) (xs ys : List X) → Any P xs → Any P (xs ++ ys)
any_front P xs ys h =
    let at = Contains-append_left xs ys h.1 (h.0, h.2, h.3) in
    (at.0, h.1, at.1, at.2, h.4)

-- ---- one part beside the rest

module _ (s : StreamKey) (a b others : State) where
  claimable_parts : (other : ℕ) → IsClaimable (beside a others) s other → IsClaimable a s other ⊎ IsClaimable others s other
  claimable_parts other h =
      let rows : All (λ r. is_block r.place ≡ true) (rows_of_chunk s other a.rows ++ rows_of_chunk s other others.rows) =
      subst (All (λ r. is_block r.place ≡ true)) (filter_joined (is_of_chunk s other) a.rows others.rows) h.1 in
      ⊎_elim
      (λ here. inl ((h.0.0, here, h.0.2, h.0.3, h.0.4), all_front (λ r. is_block r.place ≡ true) (rows_of_chunk s other a.rows) (rows_of_chunk s other others.rows) rows))
      (λ there. inr ((h.0.0, there, h.0.2, h.0.3, h.0.4), all_back (λ r. is_block r.place ≡ true) (rows_of_chunk s other a.rows) (rows_of_chunk s other others.rows) rows))
      (Contains-append_cases a.marks others.marks h.0.0 h.0.1)

  none_beside : ClaimsNone s a b → ((other : ℕ) → IsClaimable others s other → ⊥) → ClaimsNone s (beside a others) (beside b others)
  none_beside h others_none =
      record {
        none = λ other k. ⊎_elim (λ here. h.none other here) (λ there. others_none other there) (claimable_parts other k);
        same = record { rows = IsPermutation-append_left others.rows b.rows a.rows h.same.rows; marks = IsPermutation-append_left others.marks b.marks a.marks h.same.marks };
      }

  module _ (chunk f : ℕ) where
    claims_beside : Claims s chunk f a b → All (Fails (is_of_chunk s chunk)) others.rows → All (λ r. is_flight f r.place ≡ false) others.rows
        → ((other : ℕ) → IsClaimable others s other → chunk ≤ other) → Claims s chunk f (beside a others) (beside b others)
    claims_beside h away free oldest =
        let m = h.claimable.0 in
        record {
          claimable = (
            (m.0, Contains-append_left a.marks others.marks m.0 m.1, m.2, m.3, m.4),
            subst (All (λ r. is_block r.place ≡ true)) (sym (filter_beside (is_of_chunk s chunk) a.rows others.rows away)) h.claimable.1,
          );
          oldest = λ other k. ⊎_elim (λ here. h.oldest other here) (λ there. oldest other there) (claimable_parts other k);
          unused = All-append (λ r. is_flight f r.place ≡ false) a.rows others.rows h.unused free;
          moves = record {
            rows =
                subst (IsPermutation (b.rows ++ others.rows)) (sym (map_beside (is_of_chunk s chunk) (λ r. record r { place = Flight f }) a.rows others.rows away))
                (IsPermutation-append_left others.rows b.rows (moved (is_of_chunk s chunk) (Flight f) a.rows) h.moves.rows);
            marks = IsPermutation-append_left others.marks b.marks a.marks h.moves.marks;
          };
        }

    finishes_beside : (key : List ℕ) → Finishes s chunk f key a b → All (Fails (is_of_chunk s chunk)) others.rows → All (λ r. is_flight f r.place ≡ false) others.rows
        → All (Fails (is_mark_of s chunk)) others.marks → Finishes s chunk f key (beside a others) (beside b others)
    finishes_beside key h away free unmarked =
        let chunk_rows = sym (filter_beside (is_of_chunk s chunk) a.rows others.rows away) in
        record {
          flies = subst (All (λ r. is_flight f r.place ≡ true)) chunk_rows h.flies;
          some = subst (λ l. l ≢ []) chunk_rows h.some;
          stores = record {
            rows =
                subst (IsPermutation (b.rows ++ others.rows)) (sym (map_beside (λ r. is_flight f r.place) (λ r. record r { place = Stored key }) a.rows others.rows free))
                (IsPermutation-append_left others.rows b.rows (moved (λ r. is_flight f r.place) (Stored key) a.rows) h.stores.rows);
            marks =
                subst (IsPermutation (b.marks ++ others.marks)) (sym (rest_beside (is_mark_of s chunk) a.marks others.marks unmarked))
                (IsPermutation-append_left others.marks b.marks (filter (λ m. not (is_mark_of s chunk m)) a.marks) h.stores.marks);
          };
        }

gives_beside : (f : ℕ) (a b others : State) → GivesBack f a b → All (λ r. is_flight f r.place ≡ false) others.rows → GivesBack f (beside a others) (beside b others)
gives_beside f a b others h free =
    record {
      flies = any_front (λ r. is_flight f r.place ≡ true) a.rows others.rows h.flies;
      waits = record {
        rows =
            subst (IsPermutation (b.rows ++ others.rows)) (sym (map_beside (λ r. is_flight f r.place) (λ r. record r { place = Block }) a.rows others.rows free))
            (IsPermutation-append_left others.rows b.rows (moved (λ r. is_flight f r.place) Block a.rows) h.waits.rows);
        marks = IsPermutation-append_left others.marks b.marks a.marks h.waits.marks;
      };
    }

-- ---- another order

same_back : (a b : State) → IsSame a b → IsSame b a
same_back a b h = record { rows = IsPermutation-sym a.rows b.rows h.rows; marks = IsPermutation-sym a.marks b.marks h.marks }

same_on : (a b c : State) → IsSame a b → IsSame b c → IsSame a c
same_on a b c h k = record { rows = IsPermutation-trans a.rows b.rows c.rows h.rows k.rows; marks = IsPermutation-trans a.marks b.marks c.marks h.marks k.marks }

-- rows are moved alike, whatever the order
moved_alike : (test : Row → Bool) (place : Place) (a c : State) → IsSame a c → IsSame (record a { rows = moved test place a.rows }) (record c { rows = moved test place c.rows })
moved_alike test place a c same = record { rows = IsPermutation-map (λ r. cond (test r) (record r { place = place }) r) a.rows c.rows same.rows; marks = same.marks }

claimable_alike : (a c : State) (s : StreamKey) (chunk : ℕ) → IsSame a c → IsClaimable a s chunk → IsClaimable c s chunk
claimable_alike a c s chunk same h = (
  (h.0.0, Contains-permutation a.marks c.marks h.0.0 same.marks h.0.1, h.0.2, h.0.3, h.0.4),
  All-permutation (λ r. is_block r.place ≡ true) (rows_of_chunk s chunk a.rows) (rows_of_chunk s chunk c.rows) (filter_reordered (is_of_chunk s chunk) a.rows c.rows same.rows) h.1,
)

module _ (a b c d : State) (before : IsSame a c) (after : IsSame b d) where
  -- what became of a becomes of c
  onward : (x y : State) → IsSame b x → IsSame x y → IsSame d y
  onward x y h k = same_on d b y (same_back b d after) (same_on b x y h k)

  claims_alike : (s : StreamKey) (chunk f : ℕ) → Claims s chunk f a b → Claims s chunk f c d
  claims_alike s chunk f h =
      record {
        claimable = claimable_alike a c s chunk before h.claimable;
        oldest = λ other k. h.oldest other (claimable_alike c a s other (same_back a c before) k);
        unused = All-permutation (λ r. is_flight f r.place ≡ false) a.rows c.rows before.rows h.unused;
        moves = onward _ _ h.moves (moved_alike (is_of_chunk s chunk) (Flight f) a c before);
      }

  none_alike : (s : StreamKey) → ClaimsNone s a b → ClaimsNone s c d
  none_alike s h = record { none = λ other k. h.none other (claimable_alike c a s other (same_back a c before) k); same = onward a c h.same before }

  finishes_alike : (s : StreamKey) (chunk f : ℕ) (key : List ℕ) → Finishes s chunk f key a b → Finishes s chunk f key c d
  finishes_alike s chunk f key h =
      let of_chunk = filter_reordered (is_of_chunk s chunk) a.rows c.rows before.rows in
      let placed = moved_alike (λ r. is_flight f r.place) (Stored key) a c before in
      record {
        flies = All-permutation (λ r. is_flight f r.place ≡ true) (rows_of_chunk s chunk a.rows) (rows_of_chunk s chunk c.rows) of_chunk h.flies;
        some = λ none. h.some (empty_alike (rows_of_chunk s chunk a.rows) (rows_of_chunk s chunk c.rows) of_chunk none);
        stores = onward _ _ h.stores (record { rows = placed.rows; marks = filter_reordered (λ m. not (is_mark_of s chunk m)) a.marks c.marks before.marks });
      } where
        empty_alike : {X : Type 0} (xs ys : List X) → IsPermutation xs ys → ys ≡ [] → xs ≡ []
        empty_alike [] ys same none = refl
        empty_alike (x ∷ xs) ys same none =
            let more : length ys ≡ length (x ∷ xs) = length_permutation (x ∷ xs) ys same in
            let few : length ys ≡ 0 = ap length none in
            absurd (omega arith)

  gives_alike : (f : ℕ) → GivesBack f a b → GivesBack f c d
  gives_alike f h =
      let at = Contains-permutation a.rows c.rows h.flies.1 before.rows (h.flies.0, h.flies.2, h.flies.3) in
      record { flies = (at.0, h.flies.1, at.1, at.2, h.flies.4); waits = onward _ _ h.waits (moved_alike (λ r. is_flight f r.place) Block a c before) }

-- ---- what a flush keeps

module _ (test : Row → Bool) (place : Place) where
  abbrev put : Row → Row
  put r = cond (test r) (record r { place = place }) r

  put_keeps : KeepsEntries put
  put_keeps = record { stream = λ r. stream_at (test r) r; number = λ r. number_at (test r) r; entry = λ r. entry_at (test r) r } where
    stream_at : (b : Bool) (r : Row) → (cond b (record r { place = place }) r).stream ≡ r.stream
    stream_at true r = refl
    stream_at false r = refl

    number_at : (b : Bool) (r : Row) → (cond b (record r { place = place }) r).number ≡ r.number
    number_at true r = refl
    number_at false r = refl

    entry_at : (b : Bool) (r : Row) → (cond b (record r { place = place }) r).entry ≡ r.entry
    entry_at true r = refl
    entry_at false r = refl

  put_stored : (b : Bool) (r : Row) → (b ≡ true → is_stored place ≡ is_stored r.place) → is_stored (cond b (record r { place = place }) r).place ≡ is_stored r.place
  put_stored true r h = h refl
  put_stored false r h = refl

  moved_sound : (st : State) → IsSound st → IsSound (record st { rows = moved test place st.rows })
  moved_sound st h = record { once = moved_once test place st.rows h.once; one_growing = h.one_growing }

  module _ (a b : State) (moves : IsSame b (record a { rows = moved test place a.rows })) where
    pub move_sound : IsSound a → IsSound b
    move_sound h = order_sound (record a { rows = moved test place a.rows }) b (moved_sound a h) (same_back b _ moves)

    pub move_marked : IsMarked a → IsMarked b
    move_marked h = order_marked (record a { rows = moved test place a.rows }) b (moved_marked test place a.rows a.marks h) (same_back b _ moves)

    pub move_facts : (t : StreamKey) → IsSound a → All (StaysStored put) a.rows → facts_of b.rows t ≡ facts_of a.rows t
    move_facts t h stored = sym (facts_same (record a { rows = moved test place a.rows }) b t (moved_sound a h) (same_back b _ moves)) ∙ facts_kept put put_keeps a.rows t stored

block_unstored : (p : Place) → is_block p ≡ true → is_stored p ≡ false
block_unstored Block h = refl
block_unstored Head h = refl
block_unstored (Flight n) h = refl
block_unstored (Stored key) h = absurd (cc)

flight_unstored : (f : ℕ) (p : Place) → is_flight f p ≡ true → is_stored p ≡ false
flight_unstored f Block h = refl
flight_unstored f Head h = refl
flight_unstored f (Flight n) h = refl
flight_unstored f (Stored key) h = absurd (cc)

module _ (s : StreamKey) (chunk f : ℕ) (a b : State) (h : Claims s chunk f a b) where
  claim_sound : IsSound a → IsSound b
  claim_sound = move_sound (is_of_chunk s chunk) (Flight f) a b h.moves

  claim_marked : IsMarked a → IsMarked b
  claim_marked = move_marked (is_of_chunk s chunk) (Flight f) a b h.moves

  claimed_stay : (rows : List Row) → All (λ r. is_block r.place ≡ true) (rows_of_chunk s chunk rows) → All (StaysStored (put (is_of_chunk s chunk) (Flight f))) rows
  claimed_stay [] blocks = All-nil (StaysStored (put (is_of_chunk s chunk) (Flight f)))
  claimed_stay (r ∷ rows) blocks = by_cases (claimed_stay rows) (is_of_chunk s chunk r) refl blocks where
    by_cases : (All (λ q. is_block q.place ≡ true) (rows_of_chunk s chunk rows) → All (StaysStored (put (is_of_chunk s chunk) (Flight f))) rows) → (t : Bool) → is_of_chunk s chunk r ≡ t → All (λ q. is_block q.place ≡ true) (cond t (r ∷ rows_of_chunk s chunk rows) (rows_of_chunk s chunk rows)) → All (StaysStored (put (is_of_chunk s chunk) (Flight f))) (r ∷ rows)
    by_cases rest true is all =
        All-cons (StaysStored (put (is_of_chunk s chunk) (Flight f))) r rows
        (put_stored (is_of_chunk s chunk) (Flight f) (is_of_chunk s chunk r) r (λ k. sym (block_unstored r.place (All-head (λ (q : Row). is_block q.place ≡ true) r (rows_of_chunk s chunk rows) all))))
        (rest (All-tail (λ (q : Row). is_block q.place ≡ true) r (rows_of_chunk s chunk rows) all))
    by_cases rest false is all =
        All-cons (StaysStored (put (is_of_chunk s chunk) (Flight f))) r rows
        (put_stored (is_of_chunk s chunk) (Flight f) (is_of_chunk s chunk r) r (λ k. absurd (cc)))
        (rest all)

  claim_facts : (t : StreamKey) → IsSound a → facts_of b.rows t ≡ facts_of a.rows t
  claim_facts t sound = move_facts (is_of_chunk s chunk) (Flight f) a b h.moves t sound (claimed_stay a.rows h.claimable.1)

module _ (f : ℕ) (a b : State) (h : GivesBack f a b) where
  back_sound : IsSound a → IsSound b
  back_sound = move_sound (λ r. is_flight f r.place) Block a b h.waits

  back_marked : IsMarked a → IsMarked b
  back_marked = move_marked (λ r. is_flight f r.place) Block a b h.waits

  back_facts : (t : StreamKey) → IsSound a → facts_of b.rows t ≡ facts_of a.rows t
  back_facts t sound =
      move_facts (λ r. is_flight f r.place) Block a b h.waits t sound
      (λ j d below. let r = get_or a.rows j d in put_stored (λ q. is_flight f q.place) Block (is_flight f r.place) r (λ k. sym (flight_unstored f r.place k)))

module _ (s : StreamKey) (chunk f : ℕ) (key : List ℕ) (a b : State) (h : Finishes s chunk f key a b) where
  -- fewer marks
  abbrev other_marks : List Mark
  other_marks = filter (λ m. not (is_mark_of s chunk m)) a.marks

  fewer_kept : (p q : Mark → Bool) (ms : List Mark) → length (filter p (filter q ms)) ≤ length (filter p ms)
  fewer_kept p q [] = omega arith
  fewer_kept p q (m ∷ ms) = by_cases (q m) (fewer_kept p q ms) where
    kept : (u : Bool) → length (filter p (filter q ms)) ≤ length (filter p ms) → length (cond u (m ∷ filter p (filter q ms)) (filter p (filter q ms))) ≤ length (cond u (m ∷ filter p ms) (filter p ms))
    kept true few = omega arith
    kept false few = few

    dropped : (u : Bool) → length (filter p (filter q ms)) ≤ length (filter p ms) → length (filter p (filter q ms)) ≤ length (cond u (m ∷ filter p ms) (filter p ms))
    dropped true few = omega arith
    dropped false few = few

    by_cases : (t : Bool) → length (filter p (filter q ms)) ≤ length (filter p ms) → length (filter p (cond t (m ∷ filter q ms) (filter q ms))) ≤ length (filter p (m ∷ ms))
    by_cases true few = kept (p m) few
    by_cases false few = dropped (p m) few

  abbrev finished : State
  finished = record { rows = moved (λ r. is_flight f r.place) (Stored key) a.rows; marks = other_marks }

  finished_sound : IsSound a → IsSound finished
  finished_sound sound =
      record {
        once = moved_once (λ r. is_flight f r.place) (Stored key) a.rows sound.once;
        one_growing = λ t.
            let few : length (filter (is_growing t) a.marks) ≤ 1 = sound.one_growing t in
            let fewer : length (filter (is_growing t) other_marks) ≤ length (filter (is_growing t) a.marks) = fewer_kept (is_growing t) (λ m. not (is_mark_of s chunk m)) a.marks in
            omega arith;
      }

  finish_sound : IsSound a → IsSound b
  finish_sound sound = order_sound finished b (finished_sound sound) (same_back b finished h.stores)

  finish_marked : IsMarked a → IsMarked b
  finish_marked marked =
      let moved_marks : IsMarked (record a { rows = moved (λ r. is_flight f r.place) (Stored key) a.rows }) = moved_marked (λ r. is_flight f r.place) (Stored key) a.rows a.marks marked in
      let fewer : IsMarked finished = record {
        one = λ t c.
            let one : length (filter (is_mark_of t c) a.marks) ≤ 1 = marked.one t c in
            let few : length (filter (is_mark_of t c) other_marks) ≤ length (filter (is_mark_of t c) a.marks) = fewer_kept (is_mark_of t c) (λ m. not (is_mark_of s chunk m)) a.marks in
            omega arith;
        known = All-filter (λ m. not (is_mark_of s chunk m)) (λ m. m.chunk < count_of (moved (λ r. is_flight f r.place) (Stored key) a.rows) m.stream) a.marks moved_marks.known;
      } in
      order_marked finished b fewer (same_back b finished h.stores)

  -- count, greatest stamp and last entry stay
  finish_entries : (t : StreamKey) → IsSound a → SameEntries b.rows a.rows t
  finish_entries t sound =
      let order : facts_of finished.rows t ≡ facts_of b.rows t = facts_same finished b t (finished_sound sound) (same_back b finished h.stores) in
      let kept : SameEntries finished.rows a.rows t = entries_kept (put (λ r. is_flight f r.place) (Stored key)) (put_keeps (λ r. is_flight f r.place) (Stored key)) a.rows t in
      record {
        count = ap (λ x. x.count) (sym order) ∙ kept.count;
        greatest = ap (λ x. x.greatest) (sym order) ∙ kept.greatest;
        last = ap (λ x. x.last) (sym order) ∙ kept.last;
      }

  finish_facts : (t : StreamKey) → IsSound a
      → facts_of b.rows t ≡ record (facts_of a.rows t) { is_live = has_stream t (live_streams b.rows t.tenant); live = length (live_streams b.rows t.tenant) }
  finish_facts t sound =
      let same = finish_entries t sound in
      λ i. record { count = same.count i; greatest = same.greatest i; last = same.last i; is_live = has_stream t (live_streams b.rows t.tenant); live = length (live_streams b.rows t.tenant) }

-- ---- all of it

swapped : (a b : State) → IsSame (beside a b) (beside b a)
swapped a b = record { rows = IsPermutation-append_comm a.rows b.rows; marks = IsPermutation-append_comm a.marks b.marks }

pub flushes_have_no_order : FlushesHaveNoOrder
flushes_have_no_order = record {
  claims = λ s chunk f a b c d before after. claims_alike a b c d before after s chunk f;
  none = λ s a b c d before after. none_alike a b c d before after s;
  finishes = λ s chunk f key a b c d before after. finishes_alike a b c d before after s chunk f key;
  backs = λ f a b c d before after. gives_alike a b c d before after f;
}

pub flushes_are_apart : FlushesAreApart
flushes_are_apart = record {
  claims = λ s chunk f a b o h away free older. let front = claims_beside s a b o chunk f h away free older in (front, claims_alike (beside a o) (beside b o) (beside o a) (beside o b) (swapped a o) (swapped b o) s chunk f front);
  parts = λ s a b chunk. claimable_parts s a a b chunk;
  none = λ s a b o h none. let front = none_beside s a b o h none in (front, none_alike (beside a o) (beside b o) (beside o a) (beside o b) (swapped a o) (swapped b o) s front);
  finishes = λ s chunk f key a b o h away free unmarked.
      let front = finishes_beside s a b o chunk f key h away free unmarked in (front, finishes_alike (beside a o) (beside b o) (beside o a) (beside o b) (swapped a o) (swapped b o) s chunk f key front);
  backs = λ f a b o h free. let front = gives_beside f a b o h free in (front, gives_alike (beside a o) (beside b o) (beside o a) (beside o b) (swapped a o) (swapped b o) f front);
}

pub flushes_keep_facts : FlushesKeepFacts
flushes_keep_facts = record {
  claims = λ s chunk f a b h. record { marked = claim_marked s chunk f a b h; sound = claim_sound s chunk f a b h; facts = claim_facts s chunk f a b h };
  backs = λ f a b h. record { marked = back_marked f a b h; sound = back_sound f a b h; facts = back_facts f a b h };
  finishes = λ s chunk f key a b h. record { marked = finish_marked s chunk f key a b h; sound = finish_sound s chunk f key a b h; facts = finish_facts s chunk f key a b h };
}
