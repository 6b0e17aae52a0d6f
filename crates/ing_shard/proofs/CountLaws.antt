-- Counts and sums over a shard's rows, stream by stream.
use Rattle.std.proofs.Common.{◌≡◌, ◌≤◌, ℕ, ◌+◌, Bool, List, [], ◌∷◌, ◌++◌, length, cond, true, false, ◌&&◌, ◌==◌, map, nat_lt, refl, ap, sym, ◌∙◌, subst, arith, filter, All, IsPermutation, bytes_eq, sum_by}
use Rattle.std.proofs.lemmas.List.Elements.{All-head, All-set, All-tail, filter-append}
use Rattle.std.proofs.lemmas.List.{length-append, map-append, set_at}
use Rattle.std.proofs.lemmas.List.Sums.{count_by-le-length, length-filter, sum_by-append, sum_by-cons}
use Rattle.std.proofs.lemmas.List.Sorted.{sum_by-IsPermutation}
use Rattle.std.proofs.lemmas.Slice.Eq.{bytes_eq-Decides}
use Rattle.ing_rows.specs.declared.place.Place.{Place}
use Rattle.ing_rows.specs.Rows.{StreamKey, Row, is_stored, same_stream, size_of}
use Rattle.ing_shard.specs.Contents.{stored_count}
use Rattle.ing_rows.specs.Gauges.{gauge_of}
use Rattle.ing_shard.specs.OneStream.{Stream}
use Rattle.ing_shard.specs.Streams.{key_of, part_of, whole, IsKept, measure_of}
use Rattle.ing_shard.proofs.Parts.{all_rows}

-- ---- tests that agree on the rows

pub filter_eq : {X : Type 0} (p q : X → Bool) (xs : List X) → All (λ x. p x ≡ q x) xs → filter p xs ≡ filter q xs
filter_eq p q [] h = refl
filter_eq {X} p q (x ∷ xs) h =
    let rest = filter_eq p q xs (All-tail (λ y. p y ≡ q y) x xs h) in
    λ i. cond (All-head (λ y. p y ≡ q y) x xs h i) (x ∷ rest i) (rest i)

pub filter_false : {X : Type 0} (xs : List X) → filter (λ x. false) xs ≡ []
filter_false [] = refl
filter_false (x ∷ xs) = filter_false xs

pub filter_true : {X : Type 0} (xs : List X) → filter (λ x. true) xs ≡ xs
filter_true [] = refl
filter_true (x ∷ xs) = ap (λ ys. x ∷ ys) (filter_true xs)

pub filter_const : {X : Type 0} (b : Bool) (xs : List X) → filter (λ x. b) xs ≡ cond b xs []
filter_const true xs = filter_true xs
filter_const false xs = filter_false xs

filter_under : {X : Type 0} (b : Bool) (p : X → Bool) (xs : List X) → filter (λ x. b && p x) xs ≡ cond b (filter p xs) []
filter_under true p xs = refl
filter_under false p xs = filter_false xs

-- no more pass than there are
pub filter_short : {X : Type 0} (p : X → Bool) (xs : List X) → length (filter p xs) ≤ length xs
filter_short p xs = omega (arith, length-filter p xs, count_by-le-length p xs)

-- as many pass in another order
pub reordered : {X : Type 0} (p : X → Bool) (xs ys : List X) → IsPermutation xs ys → length (filter p xs) ≡ length (filter p ys)
reordered p xs ys h = length-filter p xs ∙ sym (sum_by-IsPermutation (λ x. cond (p x) 1 0) xs ys h) ∙ sym (length-filter p ys)

pub same_self : (s : StreamKey) → same_stream s s ≡ true
same_self s = ap (λ b. b && bytes_eq s.name s.name) ((bytes_eq-Decides s.tenant s.tenant).1 refl) ∙ (bytes_eq-Decides s.name s.name).1 refl

-- ---- one stream's rows

-- how many it has
pub part_count : (st : Stream) → IsKept st → length (part_of st).rows ≡ st.chunks.memory.next
part_count st kept =
    let s = key_of st in
    ap length (sym (filter_true (part_of st).rows)
    ∙ filter_eq (λ r. true) (λ r. same_stream r.stream s) (part_of st).rows (all_rows s (λ r. true ≡ same_stream r.stream s) (λ first block place e. sym (same_self s)) st.chunks))
    ∙ ap (λ f. f.count) kept.facts

-- how many have number 0
pub part_first : (st : Stream) → IsKept st → length (filter (λ r. r.number == 0) (part_of st).rows) ≡ cond (nat_lt 0 st.chunks.memory.next) 1 0
part_first st kept =
    let s = key_of st in
    let here : (b : Bool) → b ≡ (same_stream s s && b) = λ b. ap (λ x. x && b) (sym (same_self s)) in
    ap length (filter_eq (λ r. r.number == 0) (λ r. same_stream r.stream s && (r.number == 0)) (part_of st).rows
    (all_rows s (λ r. (r.number == 0) ≡ (same_stream r.stream s && (r.number == 0))) (λ first block place e. here (e.number == 0)) st.chunks))
    ∙ kept.sound.once s 0
    ∙ ap (λ f. cond (nat_lt 0 f.count) 1 0) kept.facts

-- of one tenant, by a test of its place or number
part_under : (st : Stream) (t : List ℕ) (p : Row → Bool) → filter (λ r. bytes_eq r.stream.tenant t && p r) (part_of st).rows ≡ cond (bytes_eq st.tenant t) (filter p (part_of st).rows) []
part_under st t p =
    filter_eq (λ r. bytes_eq r.stream.tenant t && p r) (λ r. bytes_eq st.tenant t && p r) (part_of st).rows
    (all_rows (key_of st) (λ r. (bytes_eq r.stream.tenant t && p r) ≡ (bytes_eq st.tenant t && p r)) (λ first block place e. refl) st.chunks)
    ∙ filter_under (bytes_eq st.tenant t) p (part_of st).rows

-- ---- one of the streams apart

pub middle : (P : Stream → Type 0) (front : List Stream) (st : Stream) (back : List Stream) → All P (front ++ st ∷ back) → P st
middle P [] st back h = All-head P st back h
middle P (f ∷ front) st back h = middle P front st back (All-tail P f (front ++ st ∷ back) h)

pub replaced : (P : Stream → Type 0) (front : List Stream) (st new : Stream) (back : List Stream) → All P (front ++ st ∷ back) → P new → All P (front ++ new ∷ back)
replaced P front st new back h p = subst (All P) (set_at front st back new (length front) refl) (All-set P (front ++ st ∷ back) (length front) new p h)

pub map_same : {Y : Type 0} (f : Stream → Y) (front : List Stream) (st new : Stream) (back : List Stream) → f new ≡ f st → map f (front ++ new ∷ back) ≡ map f (front ++ st ∷ back)
map_same f front st new back is = map-append f front (new ∷ back) ∙ ap (λ y. map f front ++ y ∷ map f back) is ∙ sym (map-append f front (st ∷ back))

pub sum_split : (g : Stream → ℕ) (front : List Stream) (st : Stream) (back : List Stream) → sum_by g (front ++ st ∷ back) ≡ g st + sum_by g (front ++ back)
sum_split g front st back = omega (arith, sum_by-append g front (st ∷ back), sum_by-cons g st back, sum_by-append g front back)

cond_added : {X : Type 0} (f : X → ℕ) (b : Bool) (x : X) (xs : List X) → sum_by f (cond b (x ∷ xs) xs) ≡ cond b (f x) 0 + sum_by f xs
cond_added f true x xs = sum_by-cons f x xs
cond_added f false x xs = omega arith

pub sum_filtered : {X : Type 0} (f : X → ℕ) (p : X → Bool) (xs : List X) → sum_by f (filter p xs) ≡ sum_by (λ x. cond (p x) (f x) 0) xs
sum_filtered f p [] = refl
sum_filtered f p (x ∷ xs) = cond_added f (p x) x (filter p xs) ∙ ap (λ n. cond (p x) (f x) 0 + n) (sum_filtered f p xs) ∙ sym (sum_by-cons (λ y. cond (p y) (f y) 0) x xs)

-- among those that pass a test
pub chosen_split : (p : Stream → Bool) (g : Stream → ℕ) (front : List Stream) (st : Stream) (back : List Stream) → sum_by g (filter p (front ++ st ∷ back)) ≡ cond (p st) (g st) 0 + sum_by g (filter p (front ++ back))
chosen_split p g front st back =
    sum_filtered g p (front ++ st ∷ back) ∙ sum_split (λ o. cond (p o) (g o) 0) front st back ∙ ap (λ n. cond (p st) (g st) 0 + n) (sym (sum_filtered g p (front ++ back)))

-- how many pass a test
pub count_split : (p : Stream → Bool) (front : List Stream) (st : Stream) (back : List Stream) → length (filter p (front ++ st ∷ back)) ≡ cond (p st) 1 0 + length (filter p (front ++ back))
count_split p front st back =
    length-filter p (front ++ st ∷ back) ∙ sum_split (λ o. cond (p o) 1 0) front st back ∙ ap (λ n. cond (p st) 1 0 + n) (sym (length-filter p (front ++ back)))

-- ---- all streams' rows

pub length_sum : {X : Type 0} (xs : List X) → length xs ≡ sum_by (λ x. 1) xs
length_sum [] = refl
length_sum {X} (x ∷ xs) =
    let more : ◌≡◌ {A = ℕ} (length (x ∷ xs)) (1 + length xs) = omega arith in
    more ∙ ap (λ n. 1 + n) (length_sum xs) ∙ sym (sum_by-cons (λ (y : X). 1) x xs)

-- a sum over a tenant's rows that pass a test is the sum of what its streams add
chosen_sum : (b : Bool) (f : Row → ℕ) (rows : List Row) → sum_by f (cond b rows []) ≡ cond b (sum_by f rows) 0
chosen_sum true f rows = refl
chosen_sum false f rows = refl

pub tenant_sum : (t : List ℕ) (p : Row → Bool) (f : Row → ℕ) (g : Stream → ℕ) (sts : List Stream) → ((st : Stream) → sum_by f (filter p (part_of st).rows) ≡ g st)
    → sum_by f (filter (λ r. bytes_eq r.stream.tenant t && p r) (whole sts).rows) ≡ sum_by g (filter (λ st. bytes_eq st.tenant t) sts)
tenant_sum t p f g [] each = refl
tenant_sum t p f g (st ∷ sts) each =
    let b = bytes_eq st.tenant t in
    let test : Row → Bool = λ r. bytes_eq r.stream.tenant t && p r in
    let here = ap (sum_by f) (part_under st t p) ∙ chosen_sum b f (filter p (part_of st).rows) ∙ ap (λ n. cond b n 0) (each st) in
    ap (sum_by f) (filter-append test (part_of st).rows (whole sts).rows)
    ∙ sum_by-append f (filter test (part_of st).rows) (filter test (whole sts).rows)
    ∙ (λ i. here i + tenant_sum t p f g sts each i)
    ∙ sym (chosen_split (λ o. bytes_eq o.tenant t) g [] st sts)

-- how many rows there are
pub rows_total : (sts : List Stream) → All IsKept sts → length (whole sts).rows ≡ sum_by (λ st. st.chunks.memory.next) sts
rows_total [] kept = refl
rows_total (st ∷ sts) kept =
    length-append (part_of st).rows (whole sts).rows
    ∙ (λ i. part_count st (All-head IsKept st sts kept) i + rows_total sts (All-tail IsKept st sts kept) i)
    ∙ sym (sum_by-cons (λ o. o.chunks.memory.next) st sts)

-- how many streams have an entry
pub streams_total : (sts : List Stream) → All IsKept sts → length (filter (λ r. r.number == 0) (whole sts).rows) ≡ length (filter (λ st. nat_lt 0 st.chunks.memory.next) sts)
streams_total [] kept = refl
streams_total (st ∷ sts) kept =
    ap length (filter-append (λ r. r.number == 0) (part_of st).rows (whole sts).rows)
    ∙ length-append (filter (λ r. r.number == 0) (part_of st).rows) (filter (λ r. r.number == 0) (whole sts).rows)
    ∙ (λ i. part_first st (All-head IsKept st sts kept) i + streams_total sts (All-tail IsKept st sts kept) i)
    ∙ sym (count_split (λ o. nat_lt 0 o.chunks.memory.next) [] st sts)

pub own_rows : (st : Stream) (p : Row → Bool) → filter (λ r. bytes_eq r.stream.tenant st.tenant && p r) (part_of st).rows ≡ filter p (part_of st).rows
own_rows st p = part_under st st.tenant p ∙ ap (λ b. cond b (filter p (part_of st).rows) []) ((bytes_eq-Decides st.tenant st.tenant).1 refl)

-- a tenant's entries in one kind of place
pub entries_total : (at : Place → Bool) (g : Stream → ℕ) → ((st : Stream) → g st ≡ (gauge_of at (part_of st).rows st.tenant).entries) → (t : List ℕ) (sts : List Stream)
    → (gauge_of at (whole sts).rows t).entries ≡ sum_by g (filter (λ st. bytes_eq st.tenant t) sts)
entries_total at g is t sts =
    length_sum (filter (λ (r : Row). bytes_eq r.stream.tenant t && at r.place) (whole sts).rows)
    ∙ tenant_sum t (λ r. at r.place) (λ r. 1) g sts
    (λ st. sym (length_sum (filter (λ (r : Row). at r.place) (part_of st).rows)) ∙ ap length (sym (own_rows st (λ r. at r.place))) ∙ sym (is st))

pub bytes_total : (at : Place → Bool) (g : Stream → ℕ) → ((st : Stream) → g st ≡ (gauge_of at (part_of st).rows st.tenant).bytes) → (t : List ℕ) (sts : List Stream)
    → (gauge_of at (whole sts).rows t).bytes ≡ sum_by g (filter (λ st. bytes_eq st.tenant t) sts)
bytes_total at g is t sts =
    tenant_sum t (λ r. at r.place) (λ r. size_of r.entry) g sts (λ st. ap (sum_by (λ r. size_of r.entry)) (sym (own_rows st (λ r. at r.place))) ∙ sym (is st))

-- how many entries are stored
pub stored_total : (sts : List Stream) → stored_count (whole sts).rows ≡ sum_by (λ st. (measure_of st).stored.entries) sts
stored_total [] = refl
stored_total (st ∷ sts) =
    ap length (filter-append (λ (r : Row). is_stored r.place) (part_of st).rows (whole sts).rows)
    ∙ length-append (filter (λ (r : Row). is_stored r.place) (part_of st).rows) (filter (λ (r : Row). is_stored r.place) (whole sts).rows)
    ∙ (λ i. length (sym (own_rows st (λ r. is_stored r.place)) i) + stored_total sts i)
    ∙ sym (sum_by-cons (λ (o : Stream). (measure_of o).stored.entries) st sts)
