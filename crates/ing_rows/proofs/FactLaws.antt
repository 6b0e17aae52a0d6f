-- What is kept of a stream suffices to judge its entries.
use Rattle.std.proofs.Common.{◌≡◌, ℕ, suc, add-one, ◌+◌, ◌<◌, ◌≤◌, max, Bool, true, false, cond, not, ◌&&◌, ◌||◌, List, [], ◌∷◌, length, map, filter, get_or, refl, sym, ap, subst, ◌∙◌, arith, bytes_eq, nat_eq, nat_lt, is_some, Some, None}
use Rattle.std.specs.Prelude.{All, Option}
use Rattle.std.specs.Option.{option_map}
use Rattle.std.proofs.lemmas.Bool.Decides.{nat_tests}
use Rattle.std.proofs.lemmas.List.Elements.{All-head, All-tail}
use Rattle.ing_rows.specs.declared.entry.Entry.{Entry}
use Rattle.ing_rows.specs.declared.place.Place.{Place}
use Rattle.ing_rows.specs.declared.place.Place.TheVariants.{Head, Block, Flight, Stored}
use Rattle.ing_rows.specs.declared.rules.Rules.{Rules}
use Rattle.ing_rows.specs.declared.verdict.Verdict.{Verdict}
use Rattle.ing_rows.specs.Rows.{StreamKey, Row, State, same_stream, is_head, is_stored, is_of_chunk, rows_of_chunk, rows_of, count_of, greatest_stamp, highest_of, later, latest, last_of, has_stream, streams_of, is_live, live_streams}
use Rattle.ing_rows.specs.Facts.{Facts, facts_of}
use Rattle.ing_rows.specs.Verdicts.{verdict_of, accepted_number}
use Rattle.ing_rows.specs.Steps.{moved, blocks_of, chunk_for, added, cut, filled, accepted, accepted_in_turn, after_entry, after_push, verdicts_of}
use Rattle.ing_rows.specs.Turns.{facts_with, facts_after, verdicts_by, accepted_among}
use Rattle.ing_rows.specs.Sound.{IsSound}
use Rattle.ing_rows.proofs.Keys.{stream_self, bytes_self}
use Rattle.ing_rows.proofs.SameLaws.{has_more, filter_both}
use Rattle.ing_rows.proofs.SoundLaws.{entry_sound}

-- ---- rows that are changed one by one

kept_cond : {X : Type 0} (b : Bool) (f : X → X) (x : X) (xs ys : List X) → xs ≡ map f ys → cond b (f x ∷ xs) xs ≡ map f (cond b (x ∷ ys) ys)
kept_cond true f x xs ys h = ap (λ l. f x ∷ l) h
kept_cond false f x xs ys h = h

pub filter_mapped : {X : Type 0} (p : X → Bool) (f : X → X) → ((x : X) → p (f x) ≡ p x) → (xs : List X) → filter p (map f xs) ≡ map f (filter p xs)
filter_mapped p f stays [] = refl
filter_mapped p f stays (x ∷ xs) =
    ap (λ b. cond b (f x ∷ filter p (map f xs)) (filter p (map f xs))) (stays x)
    ∙ kept_cond (p x) f x (filter p (map f xs)) (filter p xs) (filter_mapped p f stays xs)

-- the same, of the elements that there are
filter_mapped_here : {X : Type 0} (p : X → Bool) (f : X → X) (xs : List X) → All (λ x. p (f x) ≡ p x) xs → filter p (map f xs) ≡ map f (filter p xs)
filter_mapped_here p f [] h = refl
filter_mapped_here p f (x ∷ xs) h =
    ap (λ b. cond b (f x ∷ filter p (map f xs)) (filter p (map f xs))) (All-head (λ y. p (f y) ≡ p y) x xs h)
    ∙ kept_cond (p x) f x (filter p (map f xs)) (filter p xs) (filter_mapped_here p f xs (All-tail (λ y. p (f y) ≡ p y) x xs h))

-- a change of rows that keeps stream, number and entry
pub record KeepsEntries (f : Row → Row) : Type 0 where
  pub stream : (r : Row) → (f r).stream ≡ r.stream
  pub number : (r : Row) → (f r).number ≡ r.number
  pub entry : (r : Row) → (f r).entry ≡ r.entry

-- what the rows of a stream tell, wherever they stand: how many, the greatest stamp and the last entry
pub record SameEntries (xs ys : List Row) (s : StreamKey) : Type 0 where
  pub count : count_of xs s ≡ count_of ys s
  pub greatest : highest_of xs s ≡ highest_of ys s
  pub last : option_map (λ (r : Row). r.entry) (last_of xs s) ≡ option_map (λ (r : Row). r.entry) (last_of ys s)

-- whether a row is stored stays
abbrev pub StaysStored : (Row → Row) → Row → Type 0
StaysStored f r = is_stored (f r).place ≡ is_stored r.place

module _ (f : Row → Row) (k : KeepsEntries f) where
  of_stream : (s : StreamKey) (r : Row) → same_stream (f r).stream s ≡ same_stream r.stream s
  of_stream s r = ap (λ t. same_stream t s) (k.stream r)

  same_live : (t : List ℕ) (r : Row) → StaysStored f r → is_live t (f r) ≡ is_live t r
  same_live t r h = λ i. bytes_eq (k.stream r i).tenant t && not (h i)

  greatest_kept : (rows : List Row) → greatest_stamp (map f rows) ≡ greatest_stamp rows
  greatest_kept [] = refl
  greatest_kept (r ∷ rows) = λ i. max (k.entry r i).stamp (greatest_kept rows i)

  later_kept : (r : Row) (o : Option Row) → later (f r) (option_map f o) ≡ option_map f (later r o)
  later_kept r None = refl
  later_kept r (Some q) = (λ i. cond (nat_lt (k.number q i) (k.number r i)) (Some (f r)) (Some (f q))) ∙ outside (nat_lt q.number r.number) where
    outside : (b : Bool) → cond b (Some (f r)) (Some (f q)) ≡ option_map f (cond b (Some r) (Some q))
    outside true = refl
    outside false = refl

  latest_kept : (rows : List Row) → latest (map f rows) ≡ option_map f (latest rows)
  latest_kept [] = refl
  latest_kept (r ∷ rows) = ap (later (f r)) (latest_kept rows) ∙ later_kept r (latest rows)

  entry_kept : (o : Option Row) → option_map (λ (r : Row). r.entry) (option_map f o) ≡ option_map (λ (r : Row). r.entry) o
  entry_kept None = refl
  entry_kept (Some r) = ap (λ e. Some e) (k.entry r)

  streams_kept : (rows : List Row) → streams_of (map f rows) ≡ streams_of rows
  streams_kept [] = refl
  streams_kept (r ∷ rows) =
      (λ i. cond (has_stream (k.stream r i) (streams_kept rows i)) (streams_kept rows i) (k.stream r i ∷ streams_kept rows i))

  rows_kept : (s : StreamKey) (rows : List Row) → rows_of s (map f rows) ≡ map f (rows_of s rows)
  rows_kept s rows = filter_mapped (λ r. same_stream r.stream s) f (of_stream s) rows

  length_kept : (rows : List Row) → length (map f rows) ≡ length rows
  length_kept [] = refl
  length_kept (r ∷ rows) = ap (λ n. suc n) (length_kept rows)

  pub entries_kept : (rows : List Row) (s : StreamKey) → SameEntries (map f rows) rows s
  entries_kept rows s = record {
    count = ap length (rows_kept s rows) ∙ length_kept (rows_of s rows);
    greatest = ap greatest_stamp (rows_kept s rows) ∙ greatest_kept (rows_of s rows);
    last =
        ap (λ l. option_map (λ (r : Row). r.entry) (latest l)) (rows_kept s rows)
        ∙ ap (option_map (λ (r : Row). r.entry)) (latest_kept (rows_of s rows)) ∙ entry_kept (last_of rows s);
  }

  pub facts_kept : (rows : List Row) (s : StreamKey) → All (StaysStored f) rows → facts_of (map f rows) s ≡ facts_of rows s
  facts_kept rows s stored =
      let same = entries_kept rows s in
      let live : live_streams (map f rows) s.tenant ≡ live_streams rows s.tenant =
      ap streams_of (filter_mapped_here (is_live s.tenant) f rows (λ j d below. same_live s.tenant (get_or rows j d) (stored j d below)))
      ∙ streams_kept (filter (is_live s.tenant) rows) in
      λ i. record { count = same.count i; greatest = same.greatest i; last = same.last i; is_live = has_stream s (live i); live = length (live i) }

-- ---- heads that are closed

module _ (test : Row → Bool) where
  abbrev close : Row → Row
  close r = cond (test r && is_head r.place) (record r { place = Block }) r

  head_unstored : (p : Place) → is_head p ≡ true → is_stored p ≡ false
  head_unstored Head h = refl
  head_unstored Block h = refl
  head_unstored (Flight n) h = refl
  head_unstored (Stored key) h = absurd (cc)

  and_right : (a b : Bool) → (a && b) ≡ true → b ≡ true
  and_right true b h = h
  and_right false b h = absurd (cc)

  keeps_entries : KeepsEntries close
  keeps_entries = record {
    stream = λ r. stream_at (test r && is_head r.place) r;
    number = λ r. number_at (test r && is_head r.place) r;
    entry = λ r. entry_at (test r && is_head r.place) r;
  } where
    stream_at : (b : Bool) (r : Row) → (cond b (record r { place = Block }) r).stream ≡ r.stream
    stream_at true r = refl
    stream_at false r = refl

    number_at : (b : Bool) (r : Row) → (cond b (record r { place = Block }) r).number ≡ r.number
    number_at true r = refl
    number_at false r = refl

    entry_at : (b : Bool) (r : Row) → (cond b (record r { place = Block }) r).entry ≡ r.entry
    entry_at true r = refl
    entry_at false r = refl

  stored_at : (b : Bool) (r : Row) → (b ≡ true → is_head r.place ≡ true) → is_stored (cond b (record r { place = Block }) r).place ≡ is_stored r.place
  stored_at true r h = sym (head_unstored r.place (h refl))
  stored_at false r h = refl

  -- closing heads leaves what a verdict reads as it is
  pub facts_closed : (rows : List Row) (s : StreamKey) → facts_of (moved (λ r. test r && is_head r.place) Block rows) s ≡ facts_of rows s
  facts_closed rows s =
      facts_kept close keeps_entries rows s (λ j d below. let r = get_or rows j d in stored_at (test r && is_head r.place) r (and_right (test r) (is_head r.place)))

-- ---- one more row, under the next number of its stream

abbrev Below : ℕ → List Row → Type 0
Below n [] = Unit {0}
Below n (r ∷ rows) = (r.number < n) × Below n rows

abbrev BelowLast : ℕ → Option Row → Type 0
BelowLast n None = Unit {0}
BelowLast n (Some r) = r.number < n

latest_below : (n : ℕ) (rows : List Row) → Below n rows → BelowLast n (latest rows)
latest_below n [] h = tt
latest_below n (r ∷ rows) h = later_below (latest rows) (latest_below n rows h.1) where
  later_below : (o : Option Row) → BelowLast n o → BelowLast n (later r o)
  later_below None b = h.0
  later_below (Some q) b = picked (nat_lt q.number r.number) where
    picked : (c : Bool) → BelowLast n (cond c (Some r) (Some q))
    picked true = h.0
    picked false = b

above_last : (r : Row) (o : Option Row) → BelowLast r.number o → later r o ≡ Some r
above_last r None h = refl
above_last r (Some q) h = let less : nat_lt q.number r.number ≡ true = grind (arith, nat_tests) in ap (λ b. cond b (Some r) (Some q)) less

-- each number that is found is below this one
more_found : (b : Bool) (r : Row) (rows : List Row) → 1 ≤ length rows → 1 ≤ length (cond b (r ∷ rows) rows)
more_found true r rows h = omega arith
more_found false r rows h = h

found_below : (n : ℕ) (rows : List Row) → ((q : ℕ) → 1 ≤ length (filter (λ r. nat_eq r.number q) rows) → q < n) → Below n rows
found_below n [] h = tt
found_below n (r ∷ rows) h =
    (h r.number first, found_below n rows (λ q some. h q (more_found (nat_eq r.number q) r (filter (λ x. nat_eq x.number q) rows) some))) where
      first : 1 ≤ length (filter (λ x. nat_eq x.number r.number) (r ∷ rows))
      first =
          let rest = filter (λ (x : Row). nat_eq x.number r.number) rows in
          let same : nat_eq r.number r.number ≡ true = grind (arith, nat_tests) in
          subst (λ b. 1 ≤ length (cond b (r ∷ rest) rest)) (sym same) (at_least rest) where
            at_least : (rest : List Row) → 1 ≤ length (r ∷ rest)
            at_least rest = omega arith

small_found : (b : Bool) (q n k : ℕ) → nat_lt q n ≡ b → k ≡ cond b 1 0 → 1 ≤ k → q < n
small_found true q n k is h some = grind (arith, nat_tests)
small_found false q n k is h some = absurd (omega arith)

sound_below : (st : State) (s : StreamKey) → IsSound st → Below (count_of st.rows s) (rows_of s st.rows)
sound_below st s sound =
    found_below (count_of st.rows s) (rows_of s st.rows)
    (λ q some. small_found (nat_lt q (count_of st.rows s)) q (count_of st.rows s) (length (filter (λ r. nat_eq r.number q) (rows_of s st.rows))) refl
    (ap length (filter_both (λ r. nat_eq r.number q) (λ r. same_stream r.stream s) st.rows) ∙ sound.once s q) some)

live_more : (b : Bool) (s : StreamKey) (S : List StreamKey) → length (cond b S (s ∷ S)) ≡ cond b (length S) (length S + 1)
live_more true s S = refl
live_more false s S = omega arith

module _ (s : StreamKey) (e : Entry) (chunk block : ℕ) (old : State) where
  abbrev row : Row
  row = record { stream = s; number = count_of old.rows s; entry = e; chunk = chunk; block = block; place = Head }

  first_of_stream : rows_of s (row ∷ old.rows) ≡ row ∷ rows_of s old.rows
  first_of_stream = ap (λ b. cond b (row ∷ rows_of s old.rows) (rows_of s old.rows)) (stream_self s)

  first_live : filter (is_live s.tenant) (row ∷ old.rows) ≡ row ∷ filter (is_live s.tenant) old.rows
  first_live = ap (λ b. cond (b && true) (row ∷ filter (is_live s.tenant) old.rows) (filter (is_live s.tenant) old.rows)) (bytes_self s.tenant)

  facts_more : IsSound old → facts_of (row ∷ old.rows) s ≡ facts_with (facts_of old.rows s) e
  facts_more sound =
      let count : count_of (row ∷ old.rows) s ≡ count_of old.rows s + 1 = ap length first_of_stream ∙ sym (add-one (count_of old.rows s)) in
      let greatest : highest_of (row ∷ old.rows) s ≡ max e.stamp (highest_of old.rows s) = ap greatest_stamp first_of_stream in
      let last : option_map (λ (r : Row). r.entry) (last_of (row ∷ old.rows) s) ≡ Some e =
      ap (λ l. option_map (λ (r : Row). r.entry) (latest l)) first_of_stream
      ∙ ap (option_map (λ (r : Row). r.entry)) (above_last row (last_of old.rows s) (latest_below (count_of old.rows s) (rows_of s old.rows) (sound_below old s sound))) in
      let S = live_streams old.rows s.tenant in
      let live : live_streams (row ∷ old.rows) s.tenant ≡ cond (has_stream s S) S (s ∷ S) = ap streams_of first_live in
      let is_live : has_stream s (live_streams (row ∷ old.rows) s.tenant) ≡ true = ap (has_stream s) live ∙ has_more s s S ∙ ap (λ b. b || has_stream s S) (stream_self s) in
      let many : length (live_streams (row ∷ old.rows) s.tenant) ≡ cond (has_stream s S) (length S) (length S + 1) = ap length live ∙ live_more (has_stream s S) s S in
      λ i. record { count = count i; greatest = greatest i; last = last i; is_live = is_live i; live = many i }

-- ---- a push

facts_cond : (b : Bool) (x y : State) (s : StreamKey) (f : Facts) → facts_of x.rows s ≡ f → facts_of y.rows s ≡ f → facts_of (cond b x y).rows s ≡ f
facts_cond true x y s f h k = h
facts_cond false x y s f h k = k

module _ (rules : Rules) (s : StreamKey) (now : ℕ) where
  facts_cut : (chunk : ℕ) (st : State) (t : StreamKey) → facts_of (cut rules s chunk st).rows t ≡ facts_of st.rows t
  facts_cut chunk st t = facts_cond _ _ st t (facts_of st.rows t) (facts_closed (is_of_chunk s chunk) st.rows t) refl

  facts_filled : (chunk : ℕ) (st : State) (t : StreamKey) → facts_of (filled rules s chunk st).rows t ≡ facts_of st.rows t
  facts_filled chunk st t = facts_cond _ _ st t (facts_of st.rows t) (facts_closed (is_of_chunk s chunk) st.rows t) refl

  pub facts_accepted : (e : Entry) (old : State) → IsSound old → facts_of (accepted rules s e now old).rows s ≡ facts_with (facts_of old.rows s) e
  facts_accepted e old sound =
      let chunk = chunk_for old s in
      facts_filled chunk (cut rules s chunk (added old s e now)) s ∙ facts_cut chunk (added old s e now) s
      ∙ facts_more s e chunk (blocks_of (rows_of_chunk s chunk old.rows)) old sound

  facts_entry : (e : Entry) (v : Verdict) (old : State) → IsSound old → facts_of (after_entry rules s e now v old).rows s ≡ facts_after (facts_of old.rows s) e v
  facts_entry e v old sound = by_cases (is_some (accepted_number v)) where
    by_cases : (b : Bool) → facts_of (cond b (accepted rules s e now old) old).rows s ≡ cond b (facts_with (facts_of old.rows s) e) (facts_of old.rows s)
    by_cases true = facts_accepted e old sound
    by_cases false = refl

  pub verdicts_told : (es : List Entry) (old : State) → IsSound old → verdicts_of rules s now es old ≡ verdicts_by rules (facts_of old.rows s) es
  verdicts_told [] old sound = refl
  verdicts_told (e ∷ es) old sound =
      let v = verdict_of old.rows rules s e in
      ap (λ vs. v ∷ vs) (verdicts_told es (after_entry rules s e now v old) (entry_sound rules s now e v old sound)
      ∙ ap (λ f. verdicts_by rules f es) (facts_entry e v old sound))

  pub count_accepted : (e : Entry) (old : State) → count_of (accepted rules s e now old).rows s ≡ count_of old.rows s + 1
  count_accepted e old =
      let chunk = chunk_for old s in
      let before = added old s e now in
      ap (λ f. f.count) (facts_filled chunk (cut rules s chunk before) s) ∙ ap (λ f. f.count) (facts_cut chunk before s)
      ∙ ap (λ b. length (cond b (row s e chunk (blocks_of (rows_of_chunk s chunk old.rows)) old ∷ rows_of s old.rows) (rows_of s old.rows))) (stream_self s)
      ∙ sym (add-one (count_of old.rows s))

  abbrev InTurn : List Entry → State → Type 0
  InTurn es old =
      after_push rules s now es old ≡ accepted_in_turn (count_of old.rows s) rules s now (accepted_among es (verdicts_of rules s now es old)) old

  in_turn_entry : (e : Entry) (es : List Entry) (old : State) → ((st : State) → InTurn es st) → (b : Bool)
      → let after = cond b (accepted rules s e now old) old in
      let later = accepted_among es (verdicts_of rules s now es after) in
      after_push rules s now es after ≡ accepted_in_turn (count_of old.rows s) rules s now (cond b (e ∷ later) later) old
  in_turn_entry e es old ih true =
      let after = accepted rules s e now old in
      ih after ∙ ap (λ n. accepted_in_turn n rules s now (accepted_among es (verdicts_of rules s now es after)) after) (count_accepted e old)
  in_turn_entry e es old ih false = ih old

  pub pushed_in_turn : (es : List Entry) (old : State) → InTurn es old
  pushed_in_turn [] old = refl
  pushed_in_turn (e ∷ es) old = in_turn_entry e es old (λ st. pushed_in_turn es st) (is_some (accepted_number (verdict_of old.rows rules s e)))
