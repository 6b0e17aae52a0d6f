-- States that are the same but for order are pushed to alike.
use Rattle.std.proofs.Common.{◌≡◌, ◌≢◌, ℕ, ◌+◌, ◌-◌, ◌^◌, ◌≤◌, max, Bool, true, false, cond, ◌&&◌, ◌||◌, List, [], ◌∷◌, length, map, filter, refl, sym, ap, subst, ◌∙◌, arith, nat_eq, nat_lt, nat_le, is_some, Some, None, find}
use Rattle.std.specs.Prelude.{Option, IsPermutation}
use Rattle.std.specs.Option.{option_map, unwrap_or}
use Rattle.std.proofs.lemmas.Bool.Decides.{nat_tests}
use Rattle.std.proofs.lemmas.List.Sorted.{IsPermutation-refl, IsPermutation-trans, IsPermutation-map, IsPermutation-cons, sum_by-IsPermutation, list_any-IsPermutation, length_permutation}
use Rattle.ing_rows.specs.declared.entry.Entry.{Entry}
use Rattle.ing_rows.specs.declared.place.Place.{Place}
use Rattle.ing_rows.specs.declared.place.Place.TheVariants.{Head, Block}
use Rattle.ing_rows.specs.declared.place.SealReason.TheVariants.{Full}
use Rattle.ing_rows.specs.declared.rules.Rules.{Rules}
use Rattle.ing_rows.specs.declared.verdict.Verdict.{Verdict}
use Rattle.ing_rows.specs.Rows.{StreamKey, Row, Mark, State, IsSame, same_stream, is_block, size_of, size_of_rows, rows_of, is_of_chunk, rows_of_chunk, count_of, greatest_stamp, later, latest, has_stream, streams_of, is_live, chunk_starts}
use Rattle.ing_rows.specs.Facts.{facts_of}
use Rattle.ing_rows.specs.Verdicts.{verdict_by, verdict_of, accepted_number}
use Rattle.ing_rows.specs.Steps.{moved, is_growing, is_mark_of, in_head, blocks_of, chunk_for, added, cut, filled, accepted, after_entry, after_push, verdicts_of}
use Rattle.ing_rows.specs.Events.{is_full}
use Rattle.ing_rows.specs.Sound.{IsSound}
use Rattle.ing_rows.proofs.Keys.{stream_same, stream_swap}
use Rattle.ing_rows.proofs.Reordered.{along, same_value, first_two, filter_reordered}
use Rattle.ing_rows.proofs.SoundLaws.{count_reordered, entry_sound}

-- ---- the greatest stamp

pub greatest_reordered : (xs ys : List Row) → IsPermutation xs ys → greatest_stamp xs ≡ greatest_stamp ys
greatest_reordered = same_value greatest_stamp (λ a x y h. ap (max a.entry.stamp) h) (λ a b l. exchanged a.entry.stamp b.entry.stamp (greatest_stamp l)) where
  exchanged : (a b c : ℕ) → max a (max b c) ≡ max b (max a c)
  exchanged a b c = omega arith

-- ---- the last row, where no number stands twice

abbrev Apart : List Row → Type 0
Apart [] = Unit {0}
Apart (r ∷ rows) = (length (filter (λ q. nat_eq q.number r.number) rows) ≡ 0) × Apart rows

picked : (m n : ℕ) (r q : Option Row) → m ≢ n → cond (nat_lt n m) r q ≡ cond (nat_lt m n) q r
picked m n r q h = by_cases (nat_lt n m) refl (nat_lt m n) refl where
  by_cases : (b : Bool) → nat_lt n m ≡ b → (c : Bool) → nat_lt m n ≡ c → cond b r q ≡ cond c q r
  by_cases true below true above = absurd (grind (arith, nat_tests))
  by_cases true below false above = refl
  by_cases false below true above = refl
  by_cases false below false above = absurd (grind (arith, nat_tests, h))

later_later : (r q : Row) (o : Option Row) → r.number ≢ q.number → later r (later q o) ≡ later q (later r o)
later_later r q None h = picked r.number q.number (Some r) (Some q) h
later_later r q (Some p) h = by_cases (nat_lt p.number q.number) refl (nat_lt p.number r.number) refl where
  by_cases : (b : Bool) → nat_lt p.number q.number ≡ b → (c : Bool) → nat_lt p.number r.number ≡ c
      → later r (cond b (Some q) (Some p)) ≡ later q (cond c (Some r) (Some p))
  by_cases true below true above = picked r.number q.number (Some r) (Some q) h
  by_cases true below false above =
      let lower : nat_lt q.number r.number ≡ false = grind (arith, nat_tests) in
      ap (λ b. cond b (Some r) (Some q)) lower ∙ ap (λ b. cond b (Some q) (Some p)) (sym below)
  by_cases false below true above =
      let lower : nat_lt r.number q.number ≡ false = grind (arith, nat_tests) in
      ap (λ b. cond b (Some r) (Some p)) above ∙ ap (λ b. cond b (Some q) (Some r)) (sym lower)
  by_cases false below false above = ap (λ b. cond b (Some r) (Some p)) above ∙ ap (λ b. cond b (Some q) (Some p)) (sym below)

apart_two : (r q : Row) (l : List Row) → Apart (r ∷ q ∷ l) → (r.number ≢ q.number) × Apart (q ∷ r ∷ l)
apart_two r q l apart = by_cases (nat_eq q.number r.number) refl apart.0 where
  by_cases : (b : Bool) → nat_eq q.number r.number ≡ b → length (cond b (q ∷ filter (λ p. nat_eq p.number r.number) l) (filter (λ p. nat_eq p.number r.number) l)) ≡ 0
      → (r.number ≢ q.number) × Apart (q ∷ r ∷ l)
  by_cases true same none = absurd (omega arith)
  by_cases false same none =
      let differ : r.number ≢ q.number = λ eq. grind (arith, nat_tests) in
      let other : nat_eq r.number q.number ≡ false = grind (arith, nat_tests) in
      (differ, (ap (λ b. length (cond b (r ∷ filter (λ p. nat_eq p.number q.number) l) (filter (λ p. nat_eq p.number q.number) l))) other ∙ apart.1.0, (none, apart.1.1)))

abbrev SameLast : List Row → List Row → Type 0
SameLast x y = IsPermutation x y × (Apart x → Apart y × (latest x ≡ latest y))

same_last : (xs ys : List Row) → IsPermutation xs ys → SameLast xs ys
same_last = along SameLast (λ l. (IsPermutation-refl l, λ apart. (apart, refl))) skip exchange join where
  skip : (r : Row) (x y : List Row) → SameLast x y → SameLast (r ∷ x) (r ∷ y)
  skip r x y h = (
    IsPermutation-cons r x y h.0,
    λ apart. ((sym (count_reordered (λ q. nat_eq q.number r.number) x y h.0) ∙ apart.0, (h.1 apart.1).0), ap (later r) (h.1 apart.1).1),
  )

  exchange : (r q : Row) (l : List Row) → SameLast (r ∷ q ∷ l) (q ∷ r ∷ l)
  exchange r q l = (first_two r q l, λ apart. let two = apart_two r q l apart in (two.1, later_later r q (latest l) two.0))

  join : (x y z : List Row) → SameLast x y → SameLast y z → SameLast x z
  join x y z h k =
      (IsPermutation-trans x y z h.0 k.0, λ apart. let near = h.1 apart in let far = k.1 near.0 in (far.0, near.1 ∙ far.1))

last_reordered : (xs ys : List Row) → IsPermutation xs ys → Apart xs → latest xs ≡ latest ys
last_reordered xs ys h apart = ((same_last xs ys h).1 apart).1

-- each number once: they are apart
both_cond : {X : Type 0} (p : X → Bool) (b : Bool) (x : X) (kept all : List X) → filter p kept ≡ all
    → filter p (cond b (x ∷ kept) kept) ≡ cond (b && p x) (x ∷ all) all
both_cond p true x kept all h = ap (λ l. cond (p x) (x ∷ l) l) h
both_cond p false x kept all h = h

pub filter_both : {X : Type 0} (p q : X → Bool) (xs : List X) → filter p (filter q xs) ≡ filter (λ x. q x && p x) xs
filter_both p q [] = refl
filter_both p q (x ∷ xs) = both_cond p (q x) x (filter q xs) (filter (λ y. q y && p y) xs) (filter_both p q xs)

abbrev AtMostOnce : List Row → Type 0
AtMostOnce rows = (n : ℕ) → length (filter (λ q. nat_eq q.number n) rows) ≤ 1

fewer_cond : (b : Bool) (r : Row) (rows : List Row) → length (cond b (r ∷ rows) rows) ≤ 1 → length rows ≤ 1
fewer_cond true r rows h = omega arith
fewer_cond false r rows h = h

apart : (rows : List Row) → AtMostOnce rows → Apart rows
apart [] once = tt
apart (r ∷ rows) once = (first_alone, apart rows (λ n. fewer_cond (nat_eq r.number n) r (filter (λ q. nat_eq q.number n) rows) (once n))) where
  same : nat_eq r.number r.number ≡ true
  same = grind (arith, nat_tests)

  first_alone : length (filter (λ q. nat_eq q.number r.number) rows) ≡ 0
  first_alone =
      let two : length (r ∷ filter (λ q. nat_eq q.number r.number) rows) ≤ 1 =
      subst (λ b. length (cond b (r ∷ filter (λ q. nat_eq q.number r.number) rows) (filter (λ q. nat_eq q.number r.number) rows)) ≤ 1) same (once r.number) in
      omega arith

cond_small : (b : Bool) → cond b 1 0 ≤ 1
cond_small true = omega arith
cond_small false = omega arith

sound_apart : (st : State) (s : StreamKey) → IsSound st → Apart (rows_of s st.rows)
sound_apart st s h = apart (rows_of s st.rows) once where
  once : AtMostOnce (rows_of s st.rows)
  once n =
      subst (λ l. length l ≤ 1) (sym (filter_both (λ q. nat_eq q.number n) (λ q. same_stream q.stream s) st.rows))
      (subst (λ k. k ≤ 1) (sym (h.once s n)) (cond_small (nat_lt n (count_of st.rows s))))

-- ---- the streams that have a row

pub has_more : (a s : StreamKey) (S : List StreamKey) → has_stream s (cond (has_stream a S) S (a ∷ S)) ≡ (same_stream a s || has_stream s S)
has_more a s S = by_cases (has_stream a S) refl (same_stream a s) refl where
  by_cases : (h : Bool) → has_stream a S ≡ h → (b : Bool) → same_stream a s ≡ b → has_stream s (cond h S (a ∷ S)) ≡ (b || has_stream s S)
  by_cases true known true same = ap (λ x. has_stream x S) (sym (stream_same a s same)) ∙ known
  by_cases true known false same = refl
  by_cases false known b same = ap (λ x. x || has_stream s S) same

pub length_more : (b : Bool) (a : StreamKey) (S : List StreamKey) → length (cond b S (a ∷ S)) ≡ length S + cond b 0 1
length_more true a S = omega arith
length_more false a S = omega arith

record SameStreams (x y : List Row) : Type 0 where
  has : (s : StreamKey) → has_stream s (streams_of x) ≡ has_stream s (streams_of y)
  many : length (streams_of x) ≡ length (streams_of y)

swap_or : (a b c : Bool) → (a || (b || c)) ≡ (b || (a || c))
swap_or true true c = refl
swap_or true false c = refl
swap_or false b c = refl

both_new : (m p q : Bool) (n : ℕ) → (m ≡ true → p ≡ q) → (n + cond q 0 1) + cond (m || p) 0 1 ≡ (n + cond p 0 1) + cond (m || q) 0 1
both_new true true true n h = refl
both_new true false false n h = refl
both_new true true false n h = absurd (cc (h refl))
both_new true false true n h = absurd (cc (h refl))
both_new false true true n h = refl
both_new false true false n h = omega arith
both_new false false true n h = omega arith
both_new false false false n h = refl

abbrev with_stream : StreamKey → List StreamKey → List StreamKey
with_stream a S = cond (has_stream a S) S (a ∷ S)

many_two : (a b : StreamKey) (S : List StreamKey) → length (with_stream a (with_stream b S)) ≡ length (with_stream b (with_stream a S))
many_two a b S =
    many a b ∙ ap (λ m. (length S + cond (has_stream b S) 0 1) + cond (m || has_stream a S) 0 1) (stream_swap b a)
    ∙ both_new (same_stream a b) (has_stream a S) (has_stream b S) (length S) (λ h. ap (λ x. has_stream x S) (stream_same a b h))
    ∙ sym (many b a) where
      many : (c d : StreamKey) → length (with_stream c (with_stream d S)) ≡ (length S + cond (has_stream d S) 0 1) + cond (same_stream d c || has_stream c S) 0 1
      many c d =
          length_more (has_stream c (with_stream d S)) c (with_stream d S)
          ∙ ap (λ n. n + cond (has_stream c (with_stream d S)) 0 1) (length_more (has_stream d S) d S)
          ∙ ap (λ b. (length S + cond (has_stream d S) 0 1) + cond b 0 1) (has_more d c S)

streams_reordered : (xs ys : List Row) → IsPermutation xs ys → SameStreams xs ys
streams_reordered = along SameStreams (λ l. record { has = λ s. refl; many = refl }) skip exchange (λ x y z h k. record { has = λ s. h.has s ∙ k.has s; many = h.many ∙ k.many }) where
  skip : (r : Row) (x y : List Row) → SameStreams x y → SameStreams (r ∷ x) (r ∷ y)
  skip r x y h = record {
    has = λ s. has_more r.stream s (streams_of x) ∙ ap (λ b. same_stream r.stream s || b) (h.has s) ∙ sym (has_more r.stream s (streams_of y));
    many =
        length_more (has_stream r.stream (streams_of x)) r.stream (streams_of x)
        ∙ ap (λ n. n + cond (has_stream r.stream (streams_of x)) 0 1) h.many
        ∙ ap (λ b. length (streams_of y) + cond b 0 1) (h.has r.stream)
        ∙ sym (length_more (has_stream r.stream (streams_of y)) r.stream (streams_of y));
  }

  exchange : (r q : Row) (l : List Row) → SameStreams (r ∷ q ∷ l) (q ∷ r ∷ l)
  exchange r q l = record {
    has = λ s. two r.stream q.stream s ∙ swap_or (same_stream r.stream s) (same_stream q.stream s) (has_stream s (streams_of l)) ∙ sym (two q.stream r.stream s);
    many = many_two r.stream q.stream (streams_of l);
  } where
    two : (a b s : StreamKey) → has_stream s (with_stream a (with_stream b (streams_of l))) ≡ (same_stream a s || (same_stream b s || has_stream s (streams_of l)))
    two a b s = has_more a s (with_stream b (streams_of l)) ∙ ap (λ x. same_stream a s || x) (has_more b s (streams_of l))

-- ---- what a verdict reads

pub facts_same : (a b : State) (s : StreamKey) → IsSound a → IsSame a b → facts_of a.rows s ≡ facts_of b.rows s
facts_same a b s sound same =
    let of_stream = filter_reordered (λ r. same_stream r.stream s) a.rows b.rows same.rows in
    let count = count_reordered (λ r. same_stream r.stream s) a.rows b.rows same.rows in
    let greatest = greatest_reordered (rows_of s a.rows) (rows_of s b.rows) of_stream in
    let last = ap (option_map (λ (r : Row). r.entry)) (last_reordered (rows_of s a.rows) (rows_of s b.rows) of_stream (sound_apart a s sound)) in
    let live = streams_reordered (filter (is_live s.tenant) a.rows) (filter (is_live s.tenant) b.rows) (filter_reordered (is_live s.tenant) a.rows b.rows same.rows) in
    λ i. record { count = count i; greatest = greatest i; last = last i; is_live = live.has s i; live = live.many i }

pub full_same : (a b : State) (s : StreamKey) (more : ℕ) → IsSame a b → is_full a s more ≡ is_full b s more
full_same a b s more same =
    let rows : length a.rows ≡ length b.rows = sym (length_permutation a.rows b.rows same.rows) in
    let count : count_of a.rows s ≡ count_of b.rows s = count_reordered (λ r. same_stream r.stream s) a.rows b.rows same.rows in
    let streams : length (streams_of a.rows) ≡ length (streams_of b.rows) = (streams_reordered a.rows b.rows same.rows).many in
    let chunks : length (chunk_starts s a.rows) ≡ length (chunk_starts s b.rows) = count_reordered (λ r. same_stream r.stream s && nat_eq r.number r.chunk) a.rows b.rows same.rows in
    λ i. nat_lt (2 ^ 62) (rows i + more) || (nat_eq (count i) 0 && nat_le (2 ^ 32 - 1) (streams i)) || nat_lt (2 ^ 32 - 1) (chunks i + more)

-- ---- where an entry goes

pub short_same : {X : Type 0} (xs ys : List X) → IsPermutation xs ys → length xs ≤ 1 → xs ≡ ys
short_same {X} =
    along (λ x y. length x ≤ 1 → x ≡ y) (λ l short. refl) skip exchange (λ x y z h k short. h short ∙ k (subst (λ l. length l ≤ 1) (h short) short)) where
      skip : (a : X) (x y : List X) → (length x ≤ 1 → x ≡ y) → length (a ∷ x) ≤ 1 → a ∷ x ≡ a ∷ y
      skip a x y h short = let shorter : length x ≤ 1 = omega arith in ap (λ l. a ∷ l) (h shorter)

      exchange : (a b : X) (l : List X) → length (a ∷ b ∷ l) ≤ 1 → a ∷ b ∷ l ≡ b ∷ a ∷ l
      exchange a b l short = absurd (omega arith)

abbrev pub first : {X : Type 0} → List X → Option X
first [] = None
first (x ∷ xs) = Some x

found_cond : {X : Type 0} (b : Bool) (x : X) (xs : List X) (o : Option X) → o ≡ first xs → cond b (Some x) o ≡ first (cond b (x ∷ xs) xs)
found_cond true x xs o h = refl
found_cond false x xs o h = h

find_first : {X : Type 0} (p : X → Bool) (xs : List X) → find p xs ≡ first (filter p xs)
find_first p [] = refl
find_first p (x ∷ xs) = found_cond (p x) x (filter p xs) (find p xs) (find_first p xs)

growing_same : (a b : State) (s : StreamKey) → IsSound a → IsSame a b → find (is_growing s) a.marks ≡ find (is_growing s) b.marks
growing_same a b s sound same =
    find_first (is_growing s) a.marks
    ∙ ap first (short_same (filter (is_growing s) a.marks) (filter (is_growing s) b.marks) (filter_reordered (is_growing s) a.marks b.marks same.marks) (sound.one_growing s))
    ∙ sym (find_first (is_growing s) b.marks)

blocks_reordered : (xs ys : List Row) → IsPermutation xs ys → blocks_of xs ≡ blocks_of ys
blocks_reordered = same_value blocks_of (λ r x y h. ap (λ n. cond (is_block r.place) (max (r.block + 1) n) n) h) (λ r q l. exchanged (is_block r.place) (is_block q.place) (r.block + 1) (q.block + 1) (blocks_of l)) where
  exchanged : (b c : Bool) (m n k : ℕ) → cond b (max m (cond c (max n k) k)) (cond c (max n k) k) ≡ cond c (max n (cond b (max m k) k)) (cond b (max m k) k)
  exchanged true true m n k = omega arith
  exchanged true false m n k = refl
  exchanged false true m n k = refl
  exchanged false false m n k = refl

cond_same : (p q : Bool) (x y u v : State) → p ≡ q → IsSame x u → IsSame y v → IsSame (cond p x y) (cond q u v)
cond_same true true x y u v h k l = k
cond_same true false x y u v h k l = absurd (cc)
cond_same false true x y u v h k l = absurd (cc)
cond_same false false x y u v h k l = l

marks_cond : (p q : Bool) (f : Mark → Mark) (m n : Mark) (xs ys : List Mark) → p ≡ q → m ≡ n → IsPermutation xs ys
    → IsPermutation (cond p (map f xs) (m ∷ xs)) (cond q (map f ys) (n ∷ ys))
marks_cond true true f m n xs ys h k l = IsPermutation-map f xs ys l
marks_cond true false f m n xs ys h k l = absurd (cc)
marks_cond false true f m n xs ys h k l = absurd (cc)
marks_cond false false f m n xs ys h k l = subst (λ o. IsPermutation (m ∷ xs) (o ∷ ys)) k (IsPermutation-cons m xs ys l)

size_same : (xs ys : List Row) → IsPermutation xs ys → size_of_rows xs ≡ size_of_rows ys
size_same xs ys h = sym (sum_by-IsPermutation (λ (r : Row). size_of r.entry) xs ys h)

module _ (rules : Rules) (s : StreamKey) (now : ℕ) where
  chunk_same : (a b : State) → IsSound a → IsSame a b → chunk_for a s ≡ chunk_for b s
  chunk_same a b sound same =
      ap (λ o. unwrap_or (option_map (λ (m : Mark). m.chunk) o) (count_of a.rows s)) (growing_same a b s sound same)
      ∙ ap (unwrap_or (option_map (λ (m : Mark). m.chunk) (find (is_growing s) b.marks))) (count_reordered (λ r. same_stream r.stream s) a.rows b.rows same.rows)

  added_same : (e : Entry) (a b : State) → IsSound a → IsSame a b → IsSame (added a s e now) (added b s e now)
  added_same e a b sound same =
      let count : count_of a.rows s ≡ count_of b.rows s = count_reordered (λ r. same_stream r.stream s) a.rows b.rows same.rows in
      let chunk : chunk_for a s ≡ chunk_for b s = chunk_same a b sound same in
      let blocks : blocks_of (rows_of_chunk s (chunk_for a s) a.rows) ≡ blocks_of (rows_of_chunk s (chunk_for b s) b.rows) =
      blocks_reordered (rows_of_chunk s (chunk_for a s) a.rows) (rows_of_chunk s (chunk_for a s) b.rows) (filter_reordered (is_of_chunk s (chunk_for a s)) a.rows b.rows same.rows)
      ∙ ap (λ k. blocks_of (rows_of_chunk s k b.rows)) chunk in
      let row : List Row → ℕ → ℕ → ℕ → List Row = λ rows n c k. record { stream = s; number = n; entry = e; chunk = c; block = k; place = Head } ∷ rows in
      record {
        rows =
            subst (λ rows. IsPermutation (row a.rows (count_of a.rows s) (chunk_for a s) (blocks_of (rows_of_chunk s (chunk_for a s) a.rows))) rows)
            (λ i. row b.rows (count i) (chunk i) (blocks i)) (IsPermutation-cons _ a.rows b.rows same.rows);
        marks =
            marks_cond _ _ (λ m. cond (is_growing s m) (record m { last_update = now }) m) _ _ a.marks b.marks
            (list_any-IsPermutation (is_growing s) a.marks b.marks same.marks)
            (λ i. record { stream = s; chunk = count i; last_update = now; reason = None }) same.marks;
      }

  moved_same : (test : Row → Bool) (place : Place) (a b : State) → IsSame a b → IsPermutation (moved test place a.rows) (moved test place b.rows)
  moved_same test place a b same = IsPermutation-map (λ r. cond (test r) (record r { place = place }) r) a.rows b.rows same.rows

  cut_same : (chunk : ℕ) (a b : State) → IsSame a b → IsSame (cut rules s chunk a) (cut rules s chunk b)
  cut_same chunk a b same =
      cond_same _ _ _ a _ b
      (ap (nat_le rules.chunk_block_size) (size_same (filter (in_head s chunk) a.rows) (filter (in_head s chunk) b.rows) (filter_reordered (in_head s chunk) a.rows b.rows same.rows)))
      (record { rows = moved_same (in_head s chunk) Block a b same; marks = same.marks }) same

  filled_same : (chunk : ℕ) (a b : State) → IsSame a b → IsSame (filled rules s chunk a) (filled rules s chunk b)
  filled_same chunk a b same =
      cond_same _ _ _ a _ b
      (ap (nat_le rules.chunk_target_size) (size_same (rows_of_chunk s chunk a.rows) (rows_of_chunk s chunk b.rows) (filter_reordered (is_of_chunk s chunk) a.rows b.rows same.rows)))
      (record {
        rows = moved_same (in_head s chunk) Block a b same;
        marks = IsPermutation-map (λ m. cond (is_mark_of s chunk m) (record m { reason = Some Full }) m) a.marks b.marks same.marks;
      }) same

  pub accepted_same : (e : Entry) (a b : State) → IsSound a → IsSame a b → IsSame (accepted rules s e now a) (accepted rules s e now b)
  accepted_same e a b sound same =
      let chunk = chunk_for a s in
      subst (λ k. IsSame (accepted rules s e now a) (filled rules s k (cut rules s k (added b s e now)))) (chunk_same a b sound same)
      (filled_same chunk (cut rules s chunk (added a s e now)) (cut rules s chunk (added b s e now)) (cut_same chunk (added a s e now) (added b s e now) (added_same e a b sound same)))

  entry_same : (e : Entry) (v : Verdict) (a b : State) → IsSound a → IsSame a b → IsSame (after_entry rules s e now v a) (after_entry rules s e now v b)
  entry_same e v a b sound same = cond_same (is_some (accepted_number v)) (is_some (accepted_number v)) _ a _ b refl (accepted_same e a b sound same) same

  verdict_same : (e : Entry) (a b : State) → IsSound a → IsSame a b → verdict_of a.rows rules s e ≡ verdict_of b.rows rules s e
  verdict_same e a b sound same = ap (λ f. verdict_by rules f e) (facts_same a b s sound same)

  next_same : (e : Entry) (a b : State) → IsSound a → IsSame a b
      → IsSame (after_entry rules s e now (verdict_of a.rows rules s e) a) (after_entry rules s e now (verdict_of b.rows rules s e) b)
  next_same e a b sound same =
      subst (λ v. IsSame (after_entry rules s e now (verdict_of a.rows rules s e) a) (after_entry rules s e now v b)) (verdict_same e a b sound same)
      (entry_same e (verdict_of a.rows rules s e) a b sound same)

  pub verdicts_same : (es : List Entry) (a b : State) → IsSound a → IsSame a b → verdicts_of rules s now es a ≡ verdicts_of rules s now es b
  verdicts_same [] a b sound same = refl
  verdicts_same (e ∷ es) a b sound same =
      ap (λ v. v ∷ verdicts_of rules s now es (after_entry rules s e now (verdict_of a.rows rules s e) a)) (verdict_same e a b sound same)
      ∙ ap (λ vs. verdict_of b.rows rules s e ∷ vs)
      (verdicts_same es _ _ (entry_sound rules s now e (verdict_of a.rows rules s e) a sound) (next_same e a b sound same))

  pub push_same : (es : List Entry) (a b : State) → IsSound a → IsSame a b → IsSame (after_push rules s now es a) (after_push rules s now es b)
  push_same [] a b sound same = same
  push_same (e ∷ es) a b sound same = push_same es _ _ (entry_sound rules s now e (verdict_of a.rows rules s e) a sound) (next_same e a b sound same)
