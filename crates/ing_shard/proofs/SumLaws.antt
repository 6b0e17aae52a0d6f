-- Sums over the streams where one of them has changed.
use Rattle.std.proofs.Common.{◌≡◌, ℕ, ◌+◌, ◌-◌, ◌*◌, ◌≤◌, Bool, List, [], ◌∷◌, ◌++◌, length, cond, true, false, nat_lt, refl, ap, sym, ◌∙◌, subst, arith, filter, All, bytes_eq, sum_by, add-mul, ltb-true}
use Rattle.std.proofs.lemmas.List.Elements.{All-head, All-tail}
use Rattle.std.proofs.lemmas.List.Sums.{length-filter, sum_by-cons, sum_by-le-sum_by}
use Rattle.std.proofs.lemmas.Slice.Eq.{bytes_eq-Decides}
use Rattle.ing_shard.specs.OneStream.{Stream}
use Rattle.ing_rows.specs.declared.gauges.Gauges.{Gauges}
use Rattle.ing_rows.specs.Gauges.{AreWithin, with_changed, gauges_by}
use Rattle.ing_shard.specs.Streams.{measure_of, measures_of, sum_of}
use Rattle.ing_shard.proofs.CountLaws.{chosen_split}
use Rattle.ing_shard.proofs.TenantLaws.{same_at}

-- ---- a stream in the place of another

own : (f : Gauges → ℕ) (front : List Stream) (st : Stream) (back : List Stream) → sum_of f st.tenant (front ++ st ∷ back) ≡ f (measure_of st) + sum_of f st.tenant (front ++ back)
own f front st back =
    chosen_split (λ o. bytes_eq o.tenant st.tenant) (λ o. f (measure_of o)) front st back
    ∙ ap (λ b. cond b (f (measure_of st)) 0 + sum_of f st.tenant (front ++ back)) ((bytes_eq-Decides st.tenant st.tenant).1 refl)

pub within : (front : List Stream) (st : Stream) (back : List Stream) → AreWithin (measure_of st) (measures_of st.tenant (front ++ st ∷ back))
within front st back =
    let one : (f : Gauges → ℕ) → f (measure_of st) ≤ sum_of f st.tenant (front ++ st ∷ back) = λ f. let is = own f front st back in omega (arith, is) in
    record {
      streams = one (λ k. k.streams);
      head = record { entries = one (λ k. k.head.entries); bytes = one (λ k. k.head.bytes) };
      block = record { entries = one (λ k. k.block.entries); bytes = one (λ k. k.block.bytes) };
      flight = record { entries = one (λ k. k.flight.entries); bytes = one (λ k. k.flight.bytes) };
      stored = record { entries = one (λ k. k.stored.entries); bytes = one (λ k. k.stored.bytes) };
    }

field_case : (b : Bool) (own all x y r : ℕ) → cond b own all ≡ all → all ≡ cond b x 0 + r → cond b y 0 + r ≡ cond b (own - x + y) all
field_case true own all x y r same is = omega (arith, same, is)
field_case false own all x y r same is = sym is

field_changed : (f : Gauges → ℕ) (front : List Stream) (st new : Stream) (back : List Stream) → new.tenant ≡ st.tenant → (t : List ℕ)
    → sum_of f t (front ++ new ∷ back) ≡ cond (bytes_eq st.tenant t) (sum_of f st.tenant (front ++ st ∷ back) - f (measure_of st) + f (measure_of new)) (sum_of f t (front ++ st ∷ back))
field_changed f front st new back tenant t =
    let all : List ℕ → ℕ = λ u. sum_of f u (front ++ st ∷ back) in
    let rest = sum_of f t (front ++ back) in
    chosen_split (λ o. bytes_eq o.tenant t) (λ o. f (measure_of o)) front new back
    ∙ ap (λ u. cond (bytes_eq u t) (f (measure_of new)) 0 + rest) tenant
    ∙ field_case (bytes_eq st.tenant t) (all st.tenant) (all t) (f (measure_of st)) (f (measure_of new)) rest (same_at all st.tenant t)
    (chosen_split (λ o. bytes_eq o.tenant t) (λ o. f (measure_of o)) front st back)

kept_cond : (b : Bool) (x y : Gauges) → gauges_by (λ f. cond b (f x) (f y)) ≡ cond b x y
kept_cond true x y = refl
kept_cond false x y = refl

pub measures_changed : (front : List Stream) (st new : Stream) (back : List Stream) → new.tenant ≡ st.tenant → (t : List ℕ)
    → measures_of t (front ++ new ∷ back) ≡ cond (bytes_eq st.tenant t) (with_changed (measures_of st.tenant (front ++ st ∷ back)) (measure_of st) (measure_of new)) (measures_of t (front ++ st ∷ back))
measures_changed front st new back tenant t =
    (λ i. gauges_by (λ f. field_changed f front st new back tenant t i))
    ∙ kept_cond (bytes_eq st.tenant t) (with_changed (measures_of st.tenant (front ++ st ∷ back)) (measure_of st) (measure_of new)) (measures_of t (front ++ st ∷ back))

-- ---- how large sums are

bound_case : (b : Bool) (x n r m k : ℕ) → x ≤ n * k → r ≤ m * k → cond b x 0 + r ≤ (n + m) * k
bound_case true x n r m k h l = omega (arith, add-mul n m k, h, l)
bound_case false x n r m k h l = omega (arith, add-mul n m k, h, l)

-- each stream adds at most k for each of its entries, and so does their sum
pub sum_bound : (f : Gauges → ℕ) (k : ℕ) (t : List ℕ) (sts : List Stream) → All (λ st. f (measure_of st) ≤ st.chunks.memory.next * k) sts
    → sum_of f t sts ≤ sum_by (λ st. st.chunks.memory.next) sts * k
sum_bound f k t [] h = omega arith
sum_bound f k t (st ∷ sts) h =
    let is = chosen_split (λ o. bytes_eq o.tenant t) (λ o. f (measure_of o)) [] st sts in
    let all = sum_by-cons (λ (o : Stream). o.chunks.memory.next) st sts in
    let rest = sum_by (λ (o : Stream). o.chunks.memory.next) sts in
    let here = bound_case (bytes_eq st.tenant t) (f (measure_of st)) st.chunks.memory.next (sum_of f t sts) rest k
    (All-head (λ (o : Stream). f (measure_of o) ≤ o.chunks.memory.next * k) st sts h) (sum_bound f k t sts (All-tail (λ (o : Stream). f (measure_of o) ≤ o.chunks.memory.next * k) st sts h)) in
    subst (λ n. sum_of f t (st ∷ sts) ≤ n * k) (sym all) (subst (λ n. n ≤ (st.chunks.memory.next + rest) * k) (sym is) here)

-- so many streams have an entry
one_at_most : (n : ℕ) (b : Bool) → nat_lt 0 n ≡ b → cond b 1 0 ≤ n
one_at_most n true some = ltb-true 0 n some
one_at_most n false none = omega arith

pub count_bound : (sts : List Stream) → length (filter (λ st. nat_lt 0 st.chunks.memory.next) sts) ≤ sum_by (λ st. st.chunks.memory.next) sts
count_bound sts =
    let each = sum_by-le-sum_by (λ (o : Stream). cond (nat_lt 0 o.chunks.memory.next) 1 0) (λ o. o.chunks.memory.next) sts (λ o. one_at_most o.chunks.memory.next (nat_lt 0 o.chunks.memory.next) refl) in
    omega (arith, length-filter (λ (o : Stream). nat_lt 0 o.chunks.memory.next) sts, each)
