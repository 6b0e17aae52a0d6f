-- How what is read of a state is put together from parts of it.
use Rattle.std.proofs.Common.{◌≡◌, ℕ, suc, ◌+◌, ◌≤◌, Bool, true, false, cond, not, ◌&&◌, ◌||◌, ◌⊎◌, inl, inr, List, [], ◌∷◌, ◌++◌, length, filter, refl, sym, ap, subst, ◌∙◌, arith, bytes_eq, nat_eq, nat_lt, is_none, length-append}
use Rattle.std.specs.Prelude.{All}
use Rattle.std.specs.Option.{option_map}
use Rattle.std.proofs.lemmas.Bool.Decides.{nat_tests}
use Rattle.std.proofs.lemmas.List.Elements.{All-nil, All-cons, All-head, All-tail, All-weaker}
use Rattle.std.proofs.lemmas.List.Sorted.{IsPermutation-append, IsPermutation-append_comm}
use Rattle.ing_rows.specs.Rows.{StreamKey, Row, State, IsSame, same_stream, is_stored, rows_of, count_of, greatest_stamp, latest, has_stream, streams_of, is_live, live_streams}
use Rattle.ing_rows.specs.Facts.{facts_of}
use Rattle.ing_rows.specs.Gauges.{spots_of}
use Rattle.ing_rows.specs.Steps.{is_growing}
use Rattle.ing_rows.specs.Turns.{beside}
use Rattle.ing_rows.specs.Sound.{IsSound}
use Rattle.ing_rows.proofs.Keys.{and_true, stream_same, stream_self, stream_swap}
use Rattle.ing_rows.proofs.SameLaws.{has_more, filter_both}
use Rattle.ing_rows.proofs.ApartLaws.{Fails, alone, filter_none, filter_joined, filter_beside}

-- ---- streams that have a row

some_cond : (b : Bool) (r : Row) (rows : List Row) → nat_lt 0 (length (cond b (r ∷ rows) rows)) ≡ (b || nat_lt 0 (length rows))
some_cond true r rows = grind (arith, nat_tests)
some_cond false r rows = refl

has_row : (rows : List Row) (s : StreamKey) → has_stream s (streams_of rows) ≡ nat_lt 0 (count_of rows s)
has_row [] s = refl
has_row (r ∷ rows) s =
    has_more r.stream s (streams_of rows) ∙ ap (λ b. same_stream r.stream s || b) (has_row rows s) ∙ sym (some_cond (same_stream r.stream s) r (rows_of s rows))

-- ---- the facts of a stream beside rows of others

and_right : (b c : Bool) → c ≡ false → (b && c) ≡ false
and_right true c h = h
and_right false c h = refl

module _ (a b : State) (s : StreamKey) (none : All (λ r. same_stream r.stream s ≡ false) b.rows) where
  no_live : (t : List ℕ) → All (Fails (λ (r : Row). is_live t r && same_stream r.stream s)) b.rows
  no_live t =
      All-weaker (λ r. same_stream r.stream s ≡ false) (Fails (λ (r : Row). is_live t r && same_stream r.stream s))
      (λ r h. and_right (is_live t r) (same_stream r.stream s) h) b.rows none

  rows_beside : rows_of s (a.rows ++ b.rows) ≡ rows_of s a.rows
  rows_beside = filter_beside (λ r. same_stream r.stream s) a.rows b.rows none

  live_beside : (t : List ℕ) → has_stream s (live_streams (a.rows ++ b.rows) t) ≡ has_stream s (live_streams a.rows t)
  live_beside t =
      let test : Row → Bool = λ r. is_live t r && same_stream r.stream s in
      has_row (filter (is_live t) (a.rows ++ b.rows)) s
      ∙ ap (λ l. nat_lt 0 (length l))
      (filter_both (λ r. same_stream r.stream s) (is_live t) (a.rows ++ b.rows) ∙ filter_beside test a.rows b.rows (no_live t)
      ∙ sym (filter_both (λ r. same_stream r.stream s) (is_live t) a.rows))
      ∙ sym (has_row (filter (is_live t) a.rows) s)

  pub facts_beside : facts_of (a.rows ++ b.rows) s
      ≡ record {
        count = count_of a.rows s;
        greatest = greatest_stamp (rows_of s a.rows);
        last = option_map (λ (r : Row). r.entry) (latest (rows_of s a.rows));
        is_live = has_stream s (live_streams a.rows s.tenant);
        live = length (live_streams (a.rows ++ b.rows) s.tenant);
      }
  facts_beside =
      λ i. record {
        count = length (rows_beside i);
        greatest = greatest_stamp (rows_beside i);
        last = option_map (λ (r : Row). r.entry) (latest (rows_beside i));
        is_live = live_beside s.tenant i;
        live = length (live_streams (a.rows ++ b.rows) s.tenant);
      }

-- ---- streams by their first rows

module _ {X : Type 0} where
  passes_none : (xs : List X) → length (filter (λ x. false) xs) ≡ 0
  passes_none [] = refl
  passes_none (x ∷ xs) = passes_none xs

  pub count_cond : (b : Bool) (x : X) (xs : List X) → length (cond b (x ∷ xs) xs) ≡ cond b 1 0 + length xs
  count_cond true x xs = omega arith
  count_cond false x xs = omega arith

  -- what passes one of two tests that never both pass
  module _ (p q : X → Bool) (apart : (x : X) → (p x && q x) ≡ false) where
    either_counted : (xs : List X) → length (filter (λ x. p x || q x) xs) ≡ length (filter p xs) + length (filter q xs)
    either_counted [] = refl
    either_counted (x ∷ xs) =
        let m = length (filter p xs) in
        let n = length (filter q xs) in
        count_cond (p x || q x) x (filter (λ y. p y || q y) xs)
        ∙ ap (λ k. cond (p x || q x) 1 0 + k) (either_counted xs)
        ∙ split (p x) (q x) m n (apart x)
        ∙ (λ i. sym (count_cond (p x) x (filter p xs)) i + sym (count_cond (q x) x (filter q xs)) i) where
          split : (b c : Bool) (m n : ℕ) → (b && c) ≡ false → cond (b || c) 1 0 + (m + n) ≡ (cond b 1 0 + m) + (cond c 1 0 + n)
          split true true m n h = absurd (cc)
          split true false m n h = omega arith
          split false true m n h = omega arith
          split false false m n h = omega arith

  -- tests that are the same everywhere
  pub same_counted : (p q : X → Bool) → ((x : X) → p x ≡ q x) → (xs : List X) → length (filter p xs) ≡ length (filter q xs)
  same_counted p q same [] = refl
  same_counted p q same (x ∷ xs) =
      count_cond (p x) x (filter p xs)
      ∙ (λ i. cond (same x i) 1 0 + same_counted p q same xs i)
      ∙ sym (count_cond (q x) x (filter q xs))

  pub same_all : (p q : X → Bool) (xs : List X) → All (λ x. p x ≡ q x) xs → length (filter p xs) ≡ length (filter q xs)
  same_all p q [] same = refl
  same_all p q (x ∷ xs) same =
      count_cond (p x) x (filter p xs)
      ∙ (λ i. cond (All-head (λ y. p y ≡ q y) x xs same i) 1 0 + same_all p q xs (All-tail (λ y. p y ≡ q y) x xs same) i)
      ∙ sym (count_cond (q x) x (filter q xs))

abbrev Distinct : List StreamKey → Type 0
Distinct [] = Unit {0}
Distinct (s ∷ S) = (has_stream s S ≡ false) × Distinct S

distinct_cond : (s : StreamKey) (S : List StreamKey) (b : Bool) → has_stream s S ≡ b → Distinct S → Distinct (cond b S (s ∷ S))
distinct_cond s S true is h = h
distinct_cond s S false is h = (is, h)

streams_distinct : (rows : List Row) → Distinct (streams_of rows)
streams_distinct [] = tt
streams_distinct (r ∷ rows) = distinct_cond r.stream (streams_of rows) (has_stream r.stream (streams_of rows)) refl (streams_distinct rows)

-- the first row of the stream
abbrev is_first : StreamKey → Row → Bool
is_first s r = same_stream r.stream s && nat_eq r.number 0

module _ (rows : List Row) where
  split_first : (s t : Bool) (n : Bool) → ((s || t) && n) ≡ ((s && n) || (t && n))
  split_first true t true = refl
  split_first true true false = refl
  split_first true false false = refl
  split_first false t n = refl

  -- as many first rows as streams, where each of the streams has one
  firsts_counted : (S : List StreamKey) → Distinct S → ((s : StreamKey) → has_stream s S ≡ true → length (filter (is_first s) rows) ≡ 1)
      → length (filter (λ r. has_stream r.stream S && nat_eq r.number 0) rows) ≡ length S
  firsts_counted [] distinct one = passes_none rows
  firsts_counted (s ∷ S) distinct one =
      let other : Row → Bool = λ r. has_stream r.stream S && nat_eq r.number 0 in
      same_counted (λ r. (same_stream s r.stream || has_stream r.stream S) && nat_eq r.number 0) (λ r. is_first s r || other r)
      (λ r. ap (λ b. (b || has_stream r.stream S) && nat_eq r.number 0) (stream_swap s r.stream) ∙ split_first (same_stream r.stream s) (has_stream r.stream S) (nat_eq r.number 0)) rows
      ∙ either_counted (is_first s) other (λ r. never r (same_stream r.stream s) refl (has_stream r.stream S) refl (nat_eq r.number 0)) rows
      ∙ (λ i. one s (ap (λ b. b || has_stream s S) (stream_self s)) i + firsts_counted S distinct.1 (λ t has. one t (more t (same_stream s t) (has_stream t S) has)) i)
      ∙ one_more (length S) where
        one_more : (n : ℕ) → 1 + n ≡ suc n
        one_more n = omega arith

        more : (t : StreamKey) (b c : Bool) → c ≡ true → (b || c) ≡ true
        more t true c h = refl
        more t false c h = h

        never : (r : Row) (b : Bool) → same_stream r.stream s ≡ b → (c : Bool) → has_stream r.stream S ≡ c → (n : Bool) → ((b && n) && (c && n)) ≡ false
        never r true is true has n = absurd (cc (ap (λ t. has_stream t S) (stream_same r.stream s is), distinct.0))
        never r true is false has true = refl
        never r true is false has false = refl
        never r false is c has n = refl

-- each stream that has a row has one of number 0
abbrev OneFirst : List Row → Type 0
OneFirst rows = (s : StreamKey) → length (filter (is_first s) rows) ≡ cond (nat_lt 0 (count_of rows s)) 1 0

abbrev HasStream : List StreamKey → Row → Type 0
HasStream S r = has_stream r.stream S ≡ true

all_in : (rows : List Row) → All (HasStream (streams_of rows)) rows
all_in [] = All-nil (HasStream [])
all_in (r ∷ rows) =
    let S = streams_of rows in
    let new = cond (has_stream r.stream S) S (r.stream ∷ S) in
    All-cons (HasStream new) r rows
    (has_more r.stream r.stream S ∙ ap (λ b. b || has_stream r.stream S) (stream_self r.stream))
    (All-weaker (HasStream S) (HasStream new) (λ q has. has_more r.stream q.stream S ∙ later (same_stream r.stream q.stream) (has_stream q.stream S) has) rows (all_in rows)) where
      later : (b c : Bool) → c ≡ true → (b || c) ≡ true
      later true c h = refl
      later false c h = h

streams_counted : (rows : List Row) → OneFirst rows → length (streams_of rows) ≡ length (filter (λ r. nat_eq r.number 0) rows)
streams_counted rows first =
    let S = streams_of rows in
    sym (firsts_counted rows S (streams_distinct rows) (λ s has. first s ∙ ap (λ b. cond b 1 0) (sym (has_row rows s) ∙ has)))
    ∙ same_all (λ r. has_stream r.stream S && nat_eq r.number 0) (λ r. nat_eq r.number 0) rows
    (All-weaker (HasStream S) (λ r. (has_stream r.stream S && nat_eq r.number 0) ≡ nat_eq r.number 0) (λ r has. ap (λ b. b && nat_eq r.number 0) has) rows (all_in rows))

sound_first : (st : State) → IsSound st → OneFirst st.rows
sound_first st sound s = sound.once s 0

pub sound_streams : (st : State) → IsSound st → length (streams_of st.rows) ≡ length (filter (λ r. nat_eq r.number 0) st.rows)
sound_streams st sound = streams_counted st.rows (sound_first st sound)

-- ---- live streams by their first rows

module _ (t : List ℕ) where
  abbrev is_of_tenant : Row → Bool
  is_of_tenant r = bytes_eq r.stream.tenant t

  unstored_live : (rows : List Row) → All (λ r. is_stored r.place ≡ false) rows → filter (is_live t) rows ≡ filter is_of_tenant rows
  unstored_live [] un = refl
  unstored_live (r ∷ rows) un =
      let here : is_stored r.place ≡ false = All-head (λ (q : Row). is_stored q.place ≡ false) r rows un in
      ap (λ l. cond (bytes_eq r.stream.tenant t && not (is_stored r.place)) (r ∷ l) l) (unstored_live rows (All-tail (λ (q : Row). is_stored q.place ≡ false) r rows un))
      ∙ ap (λ b. cond (bytes_eq r.stream.tenant t && not b) (r ∷ filter is_of_tenant rows) (filter is_of_tenant rows)) here
      ∙ ap (λ b. cond b (r ∷ filter is_of_tenant rows) (filter is_of_tenant rows)) (with_true (bytes_eq r.stream.tenant t)) where
        with_true : (b : Bool) → (b && true) ≡ b
        with_true true = refl
        with_true false = refl

  -- a row of a stream is of the tenant where the stream is
  tenant_test : (s : StreamKey) (q : Bool) (r : Row) → (is_of_tenant r && (same_stream r.stream s && q)) ≡ (bytes_eq s.tenant t && (same_stream r.stream s && q))
  tenant_test s q r = by_cases (same_stream r.stream s) refl where
    by_cases : (b : Bool) → same_stream r.stream s ≡ b → (is_of_tenant r && (b && q)) ≡ (bytes_eq s.tenant t && (b && q))
    by_cases true is = ap (λ x. bytes_eq x.tenant t && q) (stream_same r.stream s is)
    by_cases false is = neither (is_of_tenant r) (bytes_eq s.tenant t) where
      neither : (b c : Bool) → (b && false) ≡ (c && false)
      neither true true = refl
      neither true false = refl
      neither false true = refl
      neither false false = refl

  tenant_first : (rows : List Row) → OneFirst rows → OneFirst (filter is_of_tenant rows)
  tenant_first rows first s =
      ap length (filter_both (is_first s) is_of_tenant rows)
      ∙ same_counted (λ r. is_of_tenant r && is_first s r) (λ r. bytes_eq s.tenant t && is_first s r) (λ r. tenant_test s (nat_eq r.number 0) r) rows
      ∙ by_cases (bytes_eq s.tenant t)
      ∙ ap (λ n. cond (nat_lt 0 n) 1 0) (sym count) where
        plain : (b : Bool) → (b && true) ≡ b
        plain true = refl
        plain false = refl

        count : count_of (filter is_of_tenant rows) s ≡ length (filter (λ r. bytes_eq s.tenant t && same_stream r.stream s) rows)
        count =
            ap length (filter_both (λ r. same_stream r.stream s) is_of_tenant rows)
            ∙ same_counted (λ r. is_of_tenant r && same_stream r.stream s) (λ r. bytes_eq s.tenant t && same_stream r.stream s)
            (λ r. ap (λ b. is_of_tenant r && b) (sym (plain (same_stream r.stream s))) ∙ tenant_test s true r ∙ ap (λ b. bytes_eq s.tenant t && b) (plain (same_stream r.stream s))) rows

        by_cases : (b : Bool) → length (filter (λ r. b && is_first s r) rows) ≡ cond (nat_lt 0 (length (filter (λ r. b && same_stream r.stream s) rows))) 1 0
        by_cases true = first s
        by_cases false = passes_none rows ∙ ap (λ n. cond (nat_lt 0 n) 1 0) (sym (passes_none rows))

  pub sound_live : (st : State) → IsSound st → All (λ r. is_stored r.place ≡ false) st.rows
      → length (live_streams st.rows t) ≡ length (filter (λ r. is_of_tenant r && nat_eq r.number 0) st.rows)
  sound_live st sound unstored =
      ap (λ l. length (streams_of l)) (unstored_live st.rows unstored)
      ∙ streams_counted (filter is_of_tenant st.rows) (tenant_first st.rows (sound_first st sound))
      ∙ ap length (filter_both (λ r. nat_eq r.number 0) is_of_tenant st.rows)

-- ---- parts of different streams

-- no stream has rows, or growing chunks, in both
abbrev RowsApart : State → State → Type 0
RowsApart a b = All (λ r. All (λ q. same_stream q.stream r.stream ≡ false) b.rows) a.rows

abbrev GrowApart : State → State → Type 0
GrowApart a b = All (λ m. is_none m.reason ≡ true → All (λ k. is_growing m.stream k ≡ false) b.marks) a.marks

module _ (a b : State) (rows : RowsApart a b) (marks : GrowApart a b) (sound_a : IsSound a) (sound_b : IsSound b) where
  counts : (s : StreamKey) → (count_of a.rows s ≡ 0) ⊎ (count_of b.rows s ≡ 0)
  counts s =
      alone (λ r. same_stream r.stream s) (λ r. All (λ q. same_stream q.stream r.stream ≡ false) b.rows)
      (λ r is none. ap length (filter_none (λ q. same_stream q.stream s) b.rows (subst (λ t. All (λ q. same_stream q.stream t ≡ false) b.rows) (stream_same r.stream s is) none))) a.rows rows

  grows : (s : StreamKey) → (length (filter (is_growing s) a.marks) ≡ 0) ⊎ (length (filter (is_growing s) b.marks) ≡ 0)
  grows s =
      alone (is_growing s) (λ m. is_none m.reason ≡ true → All (λ k. is_growing m.stream k ≡ false) b.marks)
      (λ m is none. let two = and_true (same_stream m.stream s) (is_none m.reason) is in
      ap length (filter_none (is_growing s) b.marks (subst (λ t. All (λ k. is_growing t k ≡ false) b.marks) (stream_same m.stream s two.0) (none two.1)))) a.marks marks

  joined : {X : Type 0} (p : X → Bool) (xs ys : List X) → length (filter p (xs ++ ys)) ≡ length (filter p xs) + length (filter p ys)
  joined p xs ys = ap length (filter_joined p xs ys) ∙ length-append (filter p xs) (filter p ys)

  once : (ca cb q m n : ℕ) → (ca ≡ 0) ⊎ (cb ≡ 0) → m ≡ cond (nat_lt q ca) 1 0 → n ≡ cond (nat_lt q cb) 1 0 → m + n ≡ cond (nat_lt q (ca + cb)) 1 0
  once ca cb q m n (inl none) h k = grind (arith, nat_tests)
  once ca cb q m n (inr none) h k = grind (arith, nat_tests)

  few : (m n : ℕ) → (m ≡ 0) ⊎ (n ≡ 0) → m ≤ 1 → n ≤ 1 → m + n ≤ 1
  few m n (inl none) h k = omega arith
  few m n (inr none) h k = omega arith

  pub sound_beside : IsSound (beside a b)
  sound_beside =
      record {
        once = λ s q.
            joined (λ r. same_stream r.stream s && nat_eq r.number q) a.rows b.rows
            ∙ once (count_of a.rows s) (count_of b.rows s) q (length (spots_of a.rows s q)) (length (spots_of b.rows s q)) (counts s) (sound_a.once s q) (sound_b.once s q)
            ∙ ap (λ n. cond (nat_lt q n) 1 0) (sym (joined (λ r. same_stream r.stream s) a.rows b.rows));
        one_growing = λ s.
            subst (λ n. n ≤ 1) (sym (joined (is_growing s) a.marks b.marks))
            (few (length (filter (is_growing s) a.marks)) (length (filter (is_growing s) b.marks)) (grows s) (sound_a.one_growing s) (sound_b.one_growing s));
      }

-- ---- the order of parts

pub same_beside : (a b c d : State) → IsSame a c → IsSame b d → IsSame (beside a b) (beside c d)
same_beside a b c d h k =
    record {
      rows = IsPermutation-append a.rows c.rows b.rows d.rows h.rows k.rows;
      marks = IsPermutation-append a.marks c.marks b.marks d.marks h.marks k.marks;
    }

pub swapped_beside : (a b : State) → IsSame (beside a b) (beside b a)
swapped_beside a b = record { rows = IsPermutation-append_comm a.rows b.rows; marks = IsPermutation-append_comm a.marks b.marks }
