-- Which streams are live, stream by stream.
use Rattle.std.proofs.Common.{◌≡◌, ℕ, Bool, true, false, not, cond, ◌&&◌, ◌||◌, List, [], ◌∷◌, ◌++◌, length, filter, nat_lt, refl, sym, ap, ◌∙◌, arith, append-nil, All, bytes_eq, sum_by, lt-ltb}
use Rattle.std.proofs.lemmas.List.Sums.{sum_by-cons}
use Rattle.std.specs.List.{list_any}
use Rattle.std.proofs.lemmas.List.Elements.{All-head, All-tail, filter-append, All-filter}
use Rattle.std.proofs.lemmas.Slice.Eq.{bytes_eq-Decides}
use Rattle.ing_rows.specs.declared.place.Place.{Place}
use Rattle.ing_rows.specs.declared.place.Place.TheVariants.{Head, Block, Flight, Stored}
use Rattle.ing_rows.specs.Gauges.{gauge_of}
use Rattle.ing_rows.specs.Rows.{StreamKey, Row, same_stream, has_stream, is_block, is_head, is_in_flight, is_live, is_stored, live_streams, streams_of}
use Rattle.ing_shard.specs.OneStream.{Stream}
use Rattle.ing_shard.specs.Streams.{key_of, part_of, whole, AreDistinct, has_live, measure_of, sum_of}
use Rattle.ing_shard.proofs.CountLaws.{same_self}
use Rattle.ing_shard.proofs.Parts.{all_rows}
use Rattle.ing_shard.proofs.WholeLaws.{others_rows}

-- ---- the streams of rows

none_has : (s : StreamKey) (rows : List Row) → All (λ r. same_stream r.stream s ≡ false) rows → has_stream s (streams_of rows) ≡ false
none_has s [] h = refl
none_has s (r ∷ rows) h = kept (has_stream r.stream (streams_of rows)) (none_has s rows (All-tail (λ (q : Row). same_stream q.stream s ≡ false) r rows h)) (All-head (λ (q : Row). same_stream q.stream s ≡ false) r rows h) where
  kept : (b : Bool) → has_stream s (streams_of rows) ≡ false → same_stream r.stream s ≡ false → has_stream s (cond b (streams_of rows) (r.stream ∷ streams_of rows)) ≡ false
  kept true rest here = rest
  kept false rest here = ap (λ c. c || has_stream s (streams_of rows)) here ∙ rest

-- rows of one stream in front of rows of others
abbrev front : Bool → StreamKey → List StreamKey → List StreamKey
front b s ss = cond b (s ∷ ss) ss

one_more : (s : StreamKey) (b : Bool) (ss : List StreamKey) → has_stream s ss ≡ false → cond (has_stream s (front b s ss)) (front b s ss) (s ∷ front b s ss) ≡ s ∷ ss
one_more s true ss none = ap (λ c. cond (c || has_stream s ss) (s ∷ ss) (s ∷ s ∷ ss)) (same_self s)
one_more s false ss none = ap (λ c. cond c ss (s ∷ ss)) none

streams_front : (p : Row → Bool) (s : StreamKey) (xs ys : List Row) → All (λ r. r.stream ≡ s) xs → has_stream s (streams_of ys) ≡ false → streams_of (filter p xs ++ ys) ≡ front (list_any p xs) s (streams_of ys)
streams_front p s [] ys own none = refl
streams_front p s (r ∷ xs) ys own none = kept (p r) (streams_front p s xs ys (All-tail (λ (q : Row). q.stream ≡ s) r xs own) none) (All-head (λ (q : Row). q.stream ≡ s) r xs own) where
  kept : (b : Bool) → streams_of (filter p xs ++ ys) ≡ front (list_any p xs) s (streams_of ys) → r.stream ≡ s
      → streams_of (cond b (r ∷ filter p xs) (filter p xs) ++ ys) ≡ front (b || list_any p xs) s (streams_of ys)
  kept true rest here = (λ i. cond (has_stream (here i) (rest i)) (rest i) (here i ∷ rest i)) ∙ one_more s (list_any p xs) (streams_of ys) none
  kept false rest here = rest

-- ---- one stream of a shard

any_under : {X : Type 0} (b : Bool) (p : X → Bool) (xs : List X) → list_any (λ x. b && p x) xs ≡ (b && list_any p xs)
any_under true p xs = refl
any_under false p [] = refl
any_under false p (x ∷ xs) = any_under false p xs

any_eq : {X : Type 0} (p q : X → Bool) (xs : List X) → All (λ x. p x ≡ q x) xs → list_any p xs ≡ list_any q xs
any_eq p q [] h = refl
any_eq p q (x ∷ xs) h = let rest = any_eq p q xs (All-tail (λ y. p y ≡ q y) x xs h) in λ i. All-head (λ y. p y ≡ q y) x xs h i || rest i

live_any : (t : List ℕ) (st : Stream) → list_any (is_live t) (part_of st).rows ≡ (bytes_eq st.tenant t && has_live st)
live_any t st =
    any_eq (is_live t) (λ r. bytes_eq st.tenant t && not (is_stored r.place)) (part_of st).rows
    (all_rows (key_of st) (λ r. is_live t r ≡ (bytes_eq st.tenant t && not (is_stored r.place))) (λ first block place e. refl) st.chunks)
    ∙ any_under (bytes_eq st.tenant t) (λ (r : Row). not (is_stored r.place)) (part_of st).rows

own_any : (st : Stream) → list_any (is_live st.tenant) (part_of st).rows ≡ has_live st
own_any st = live_any st.tenant st ∙ ap (λ b. b && has_live st) ((bytes_eq-Decides st.tenant st.tenant).1 refl)

part_streams : (st : Stream) → live_streams (part_of st).rows st.tenant ≡ front (has_live st) (key_of st) []
part_streams st =
    ap streams_of (sym (append-nil (filter (is_live st.tenant) (part_of st).rows)))
    ∙ streams_front (is_live st.tenant) (key_of st) (part_of st).rows [] (all_rows (key_of st) (λ r. r.stream ≡ key_of st) (λ first block place e. refl) st.chunks) refl
    ∙ ap (λ b. front b (key_of st) []) (own_any st)

in_front : (s : StreamKey) (b : Bool) → has_stream s (front b s []) ≡ b
in_front s true = ap (λ c. c || false) (same_self s)
in_front s false = refl

long_front : (s : StreamKey) (b : Bool) → length (front b s []) ≡ cond b 1 0
long_front s true = refl
long_front s false = refl

-- whether it is live, and how many streams of its part are
pub part_live : (st : Stream) → (has_stream (key_of st) (live_streams (part_of st).rows st.tenant) ≡ has_live st) × (length (live_streams (part_of st).rows st.tenant) ≡ cond (has_live st) 1 0)
part_live st = (ap (has_stream (key_of st)) (part_streams st) ∙ in_front (key_of st) (has_live st), ap length (part_streams st) ∙ long_front (key_of st) (has_live st))

-- ---- all streams

chosen : (b q : Bool) (s : StreamKey) (ss : List StreamKey) (g : Stream → ℕ) (st : Stream) (sts : List Stream) → g st ≡ cond q 1 0 → length ss ≡ sum_by g sts → length (front (b && q) s ss) ≡ sum_by g (cond b (st ∷ sts) sts)
chosen true true s ss g st sts one rest = let sum = sum_by-cons g st sts in omega (arith, one, rest, sum)
chosen true false s ss g st sts one rest = let sum = sum_by-cons g st sts in omega (arith, one, rest, sum)
chosen false q s ss g st sts one rest = rest

-- how many of a tenant's streams are live
pub live_total : (t : List ℕ) (sts : List Stream) → AreDistinct sts → length (live_streams (whole sts).rows t) ≡ sum_of (λ k. k.streams) t sts
live_total t [] distinct = refl
live_total t (st ∷ sts) distinct =
    let s = key_of st in
    let rest = filter (is_live t) (whole sts).rows in
    ap (λ l. length (streams_of l)) (filter-append (is_live t) (part_of st).rows (whole sts).rows)
    ∙ ap length (streams_front (is_live t) s (part_of st).rows rest (all_rows s (λ r. r.stream ≡ s) (λ first block place e. refl) st.chunks)
    (none_has s rest (All-filter (is_live t) (λ (r : Row). same_stream r.stream s ≡ false) (whole sts).rows (others_rows s sts distinct.0))))
    ∙ ap (λ b. length (front b s (streams_of rest))) (live_any t st)
    ∙ chosen (bytes_eq st.tenant t) (has_live st) s (streams_of rest) (λ o. (measure_of o).streams) st (filter (λ o. bytes_eq o.tenant t) sts) refl (live_total t sts distinct.1)

-- ---- by counts

count_any : {X : Type 0} (p : X → Bool) (xs : List X) → nat_lt 0 (length (filter p xs)) ≡ list_any p xs
count_any p [] = refl
count_any p (x ∷ xs) = kept (p x) (count_any p xs) where
  kept : (b : Bool) → nat_lt 0 (length (filter p xs)) ≡ list_any p xs → nat_lt 0 (length (cond b (x ∷ filter p xs) (filter p xs))) ≡ (b || list_any p xs)
  kept true rest = lt-ltb 0 (length (x ∷ filter p xs)) (omega arith)
  kept false rest = rest

or_four : (a b c d : Bool) → ((a || b) || (c || d)) ≡ ((a || c) || (b || d))
or_four true b c d = refl
or_four false true true d = refl
or_four false true false d = refl
or_four false false c d = refl

any_or : {X : Type 0} (p q : X → Bool) (xs : List X) → list_any (λ x. p x || q x) xs ≡ (list_any p xs || list_any q xs)
any_or p q [] = refl
any_or p q (x ∷ xs) = ap (λ b. (p x || q x) || b) (any_or p q xs) ∙ or_four (p x) (q x) (list_any p xs) (list_any q xs)

-- it has an entry in a head, in a block or in flight
pub live_kinds : (st : Stream) → let s = st.tenant in let rows = (part_of st).rows in
    (nat_lt 0 (gauge_of is_head rows s).entries || (nat_lt 0 (gauge_of is_block rows s).entries || nat_lt 0 (gauge_of is_in_flight rows s).entries)) ≡ has_live st
live_kinds st =
    let rows = (part_of st).rows in
    let at : (Place → Bool) → Row → Bool = λ test r. bytes_eq r.stream.tenant st.tenant && test r.place in
    (λ i. count_any (at is_head) rows i || (count_any (at is_block) rows i || count_any (at is_in_flight) rows i))
    ∙ ap (λ b. list_any (at is_head) rows || b) (sym (any_or (at is_block) (at is_in_flight) rows))
    ∙ sym (any_or (at is_head) (λ r. at is_block r || at is_in_flight r) rows)
    ∙ any_eq (λ r. at is_head r || (at is_block r || at is_in_flight r)) (is_live st.tenant) rows
    (all_rows (key_of st) (λ r. (at is_head r || (at is_block r || at is_in_flight r)) ≡ is_live st.tenant r) (λ first block place e. kinds (bytes_eq st.tenant st.tenant) place) st.chunks)
    ∙ own_any st where
      kinds : (b : Bool) (place : Place) → ((b && is_head place) || ((b && is_block place) || (b && is_in_flight place))) ≡ (b && not (is_stored place))
      kinds true Head = refl
      kinds true Block = refl
      kinds true (Flight f) = refl
      kinds true (Stored key) = refl
      kinds false place = refl
