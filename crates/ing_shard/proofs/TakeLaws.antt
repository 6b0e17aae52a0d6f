-- A stream takes accepted entries: what that does to what is held.
use Rattle.std.proofs.Common.{◌≡◌, ℕ, ◌+◌, ◌-◌, ◌*◌, ◌^◌, ◌<◌, ◌≤◌, ◌==◌, Bool, List, [], ◌∷◌, ◌++◌, length, cond, true, false, true≢false, not, ◌&&◌, nat_lt, refl, ap, sym, ◌∙◌, subst, arith, filter, All, bytes_eq, sum_by, ◌||◌, is_some, nat_le}
use Rattle.std.specs.List.{list_any}
use Rattle.std.proofs.lemmas.Bool.Decides.{nat_tests}
use Rattle.std.proofs.lemmas.Bool.{eqb-true, ltb-false, or_parts, cond_both}
use Rattle.std.proofs.lemmas.List.{nil_from_length}
use Rattle.std.proofs.lemmas.List.Elements.{All-weaker}
use Rattle.std.proofs.lemmas.Slice.Eq.{bytes_eq-Decides}
use Rattle.ing_labels.specs.Labels.{IsLabelSet}
use Rattle.ing_rows.specs.declared.entry.Entry.{Entry}
use Rattle.ing_rows.specs.declared.verdict.Verdict.{Verdict}
use Rattle.ing_rows.specs.Events.{is_full}
use Rattle.ing_rows.specs.Turns.{accepted_among}
use Rattle.ing_rows.specs.Verdicts.{accepted_number}
use Rattle.ing_rows.specs.declared.place.Place.{Place}
use Rattle.ing_rows.specs.declared.gauges.Gauges.{Gauges}
use Rattle.ing_rows.specs.Rows.{StreamKey, Row, State, chunk_starts, count_of, streams_of, is_head, is_block, is_in_flight, is_stored}
use Rattle.slab.specs.Slab.{get}
use Rattle.ing_shard.specs.OneStream.{Stream}
use Rattle.ing_shard.specs.Flights.{AreApart, flights_among}
use Rattle.ing_shard.specs.declared.streams.Streams.{Streams}
use Rattle.ing_shard.specs.Tenants.{find_of, is_known, kept_of, posted_of}
use Rattle.ing_rows.specs.Gauges.{HaveRoom, with_changed}
use Rattle.ing_shard.specs.Streams.{part_of, IsKept, AreDistinct, AreHeld, listed_of, measure_of, measures_of, position_of, sum_of}
use Rattle.ing_shard.proofs.CountLaws.{filter_short, part_count}
use Rattle.ing_shard.proofs.SumLaws.{measures_changed, sum_bound}

any_short : {X : Type 0} (p : X → Bool) (xs : List X) → cond (list_any p xs) 1 0 ≤ length xs
any_short p [] = omega arith
any_short p (x ∷ xs) = cond_both {A = ℕ} (list_any p (x ∷ xs)) 1 0 (λ n. n ≤ length (x ∷ xs)) (λ yes. omega arith) (λ no. omega arith)

live_small : (st : Stream) → IsKept st → (measure_of st).streams ≤ st.chunks.memory.next * 1
live_small st kept =
    let short = any_short (λ (r : Row). not (is_stored r.place)) (part_of st).rows in
    let count = part_count st kept in
    omega (arith, short, count)

pub entries_small : (st : Stream) (p : Row → Bool) → IsKept st → length (filter p (part_of st).rows) ≤ st.chunks.memory.next * 1
entries_small st p kept = let short = filter_short p (part_of st).rows in let count = part_count st kept in omega (arith, short, count)

-- the sums of a tenant's streams can be kept
pub sums_fit : (t : List ℕ) (sts : List Stream) → All IsKept sts → sum_by (λ st. st.chunks.memory.next) sts ≤ 2 ^ 62 → HaveRoom (measures_of t sts)
sums_fit t sts kept few =
    let bound : (f : Gauges → ℕ) (k : ℕ) → ((st : Stream) → IsKept st → f (measure_of st) ≤ st.chunks.memory.next * k) → sum_of f t sts ≤ sum_by (λ st. st.chunks.memory.next) sts * k =
    λ f k each. sum_bound f k t sts (All-weaker IsKept (λ st. f (measure_of st) ≤ st.chunks.memory.next * k) each sts kept) in
    let at : (Place → Bool) → Stream → Row → Bool = λ test st r. bytes_eq r.stream.tenant st.tenant && test r.place in
    record {
      streams = let most = bound (λ k. k.streams) 1 live_small in omega (arith, most, few);
      head = record {
        entries = let most = bound (λ k. k.head.entries) 1 (λ st. entries_small st (at is_head st)) in omega (arith, most, few);
        bytes = let most = bound (λ k. k.head.bytes) (2 ^ 65) (λ st k. k.small.head) in omega (arith, most, few);
      };
      block = record {
        entries = let most = bound (λ k. k.block.entries) 1 (λ st. entries_small st (at is_block st)) in omega (arith, most, few);
        bytes = let most = bound (λ k. k.block.bytes) (3 * 2 ^ 64) (λ st k. k.small.block) in omega (arith, most, few);
      };
      flight = record {
        entries = let most = bound (λ k. k.flight.entries) 1 (λ st. entries_small st (at is_in_flight st)) in omega (arith, most, few);
        bytes = let most = bound (λ k. k.flight.bytes) (2 ^ 64) (λ st k. k.small.flight) in omega (arith, most, few);
      };
      stored = record {
        entries = let most = bound (λ k. k.stored.entries) 1 (λ st. entries_small st (at is_stored st)) in omega (arith, most, few);
        bytes = let most = bound (λ k. k.stored.bytes) (2 ^ 64) (λ st k. k.small.stored) in omega (arith, most, few);
      };
    }

-- the changed sums are those of the changed streams
pub changed_own : (front : List Stream) (st new : Stream) (back : List Stream) → new.tenant ≡ st.tenant
    → measures_of st.tenant (front ++ new ∷ back) ≡ with_changed (measures_of st.tenant (front ++ st ∷ back)) (measure_of st) (measure_of new)
changed_own front st new back tenant =
    measures_changed front st new back tenant st.tenant
    ∙ ap (λ b. cond b (with_changed (measures_of st.tenant (front ++ st ∷ back)) (measure_of st) (measure_of new)) (measures_of st.tenant (front ++ st ∷ back))) ((bytes_eq-Decides st.tenant st.tenant).1 refl)

-- the same list of streams, where the tenants' streams are found alike
pub held_found : {R : Type 0} (old new : Streams R) → AreHeld old → new.list.items ≡ old.list.items → ((t n : List ℕ) → find_of new.tenants t n ≡ find_of old.tenants t n)
    → ((t : List ℕ) → posted_of new.tenants t ≡ posted_of old.tenants t)
    → ((t : List ℕ) → is_known old.tenants t ≡ true → is_known new.tenants t ≡ true) → ((t : List ℕ) → kept_of new.tenants t ≡ kept_of old.tenants t)
    → new.entries ≡ old.entries → new.stored ≡ old.stored → new.active ≡ old.active → ((f : ℕ) → get new.flights f ≡ get old.flights f) → AreHeld new
held_found old new held is find posted stay kept entries stored active taken =
    let few = held.few in
    let most = held.most in
    record {
      kept = subst (All IsKept) (sym is) held.kept;
      distinct = subst AreDistinct (sym is) held.distinct;
      found = λ s. find s.tenant s.name ∙ held.found s ∙ ap (position_of s) (sym is);
      known = subst (λ l. All (λ st. is_known new.tenants st.tenant ≡ true) l) (sym is) (All-weaker (λ (st : Stream). is_known old.tenants st.tenant ≡ true) (λ st. is_known new.tenants st.tenant ≡ true) (λ st. stay st.tenant) old.list.items held.known);
      labelled = subst (All (λ st. IsLabelSet st.labels)) (sym is) held.labelled;
      posted = λ t. posted t ∙ held.posted t ∙ ap (listed_of t) (sym is);
      sums = λ t. kept t ∙ held.sums t ∙ ap (measures_of t) (sym is);
      entries = entries ∙ held.entries ∙ ap (sum_by (λ st. st.chunks.memory.next)) (sym is);
      stored = stored ∙ held.stored ∙ ap (sum_by (λ st. (measure_of st).stored.entries)) (sym is);
      active = active ∙ held.active ∙ ap (λ l. length (filter (λ st. nat_lt 0 st.chunks.memory.next) l)) (sym is);
      few = omega (arith, entries, few);
      most = omega (arith, active, most);
      flights = subst (AreApart new.flights) (sym is) (λ f. subst (λ o. flights_among f old.list.items ≡ cond (is_some o) 1 0) (sym (taken f)) (held.flights f));
    }

-- and where the tenants are the same
pub held_same : {R : Type 0} (old new : Streams R) → AreHeld old → new.list.items ≡ old.list.items → new.tenants ≡ old.tenants → new.entries ≡ old.entries → new.stored ≡ old.stored → new.active ≡ old.active → ((f : ℕ) → get new.flights f ≡ get old.flights f) → AreHeld new
held_same old new held is tenants =
    held_found old new held is (λ t n. ap (λ ts. find_of ts t n) tenants) (λ t. ap (λ ts. posted_of ts t) tenants) (λ t known. ap (λ ts. is_known ts t) tenants ∙ known) (λ t. ap (λ ts. kept_of ts t) tenants)

-- a tenant has no more live streams than all have entries
pub live_fits : (t : List ℕ) (sts : List Stream) → All IsKept sts → sum_by (λ st. st.chunks.memory.next) sts ≤ 2 ^ 62 → (measures_of t sts).streams ≤ 2 ^ 62
live_fits t sts kept few =
    let live = sum_bound (λ k. k.streams) 1 t sts (All-weaker IsKept (λ st. (measure_of st).streams ≤ st.chunks.memory.next * 1) live_small sts kept) in
    omega (arith, live, few)

-- those that are accepted are among those that are judged
pub accepted_within : (es : List Entry) (vs : List Verdict) → length (accepted_among es vs) ≤ length es
accepted_within [] vs = omega arith
accepted_within (e ∷ es) [] = omega arith
accepted_within (e ∷ es) (v ∷ vs) =
    let rest = accepted_within es vs in
    cond_both (is_some (accepted_number v)) (e ∷ accepted_among es vs) (accepted_among es vs) (λ l. length l ≤ length (e ∷ es)) (λ yes. omega (arith, rest)) (λ no. omega (arith, rest))

-- where no count is full, the entries fit
pub not_full : (st : State) (s : StreamKey) (more : ℕ) → is_full st s more ≡ false → length st.rows + more ≤ 2 ^ 62
not_full st s more h =
    let entries = nat_lt (2 ^ 62) (length st.rows + more) in
    let streams = (count_of st.rows s == 0) && nat_le (2 ^ 32 - 1) (length (streams_of st.rows)) in
    let chunks = nat_lt (2 ^ 32 - 1) (length (chunk_starts s st.rows) + more) in
    ltb-false (2 ^ 62) (length st.rows + more) (or_parts entries streams (or_parts (entries || streams) chunks h).0).0

-- and so does the stream, where it has no entry yet
pub not_full_streams : (st : State) (s : StreamKey) (more : ℕ) → is_full st s more ≡ false → count_of st.rows s ≡ 0 → length (streams_of st.rows) < 2 ^ 32 - 1
not_full_streams st s more h none =
    let entries = nat_lt (2 ^ 62) (length st.rows + more) in
    let many = nat_le (2 ^ 32 - 1) (length (streams_of st.rows)) in
    let chunks = nat_lt (2 ^ 32 - 1) (length (chunk_starts s st.rows) + more) in
    let streams : ((count_of st.rows s == 0) && many) ≡ false = (or_parts entries ((count_of st.rows s == 0) && many) (or_parts (entries || ((count_of st.rows s == 0) && many)) chunks h).0).1 in
    let fits : many ≡ false = sym (ap (λ n. (n == 0) && many) none) ∙ streams in
    grind (arith, nat_tests, fits)

-- a stream more at most, where it had no entry
pub started : (next active : ℕ) → active ≤ 2 ^ 32 - 1 → (next ≡ 0 → active < 2 ^ 32 - 1) → active + cond (nat_lt 0 next) 0 1 ≤ 2 ^ 32 - 1
started next active most room = by_cases (nat_lt 0 next) refl where
  by_cases : (b : Bool) → nat_lt 0 next ≡ b → active + cond b 0 1 ≤ 2 ^ 32 - 1
  by_cases true is = omega (arith, most)
  by_cases false is =
      let none = ltb-false 0 next is in
      let below = room (omega (arith, none)) in
      omega (arith, below)

-- a list of some length has an item
pub some_items : {X : Type 0} (xs : List X) (n : ℕ) → n ≡ length xs → (n == 0) ≡ false → 0 < length xs
some_items [] n is some = absurd (true≢false (subst (λ k. (k == 0) ≡ false) is some))
some_items (x ∷ xs) n is some = omega arith

-- a list of no length is empty
pub no_items : {X : Type 0} (xs : List X) (n : ℕ) → n ≡ length xs → (n == 0) ≡ true → xs ≡ []
no_items xs n is none = let zero_long = eqb-true n 0 none in nil_from_length xs (sym is ∙ zero_long)

pub not_full_chunks : (st : State) (s : StreamKey) (more : ℕ) → is_full st s more ≡ false → length (chunk_starts s st.rows) + more ≤ 2 ^ 32 - 1
not_full_chunks st s more h =
    let entries = nat_lt (2 ^ 62) (length st.rows + more) in
    let streams = (count_of st.rows s == 0) && nat_le (2 ^ 32 - 1) (length (streams_of st.rows)) in
    let chunks = nat_lt (2 ^ 32 - 1) (length (chunk_starts s st.rows) + more) in
    ltb-false (2 ^ 32 - 1) (length (chunk_starts s st.rows) + more) (or_parts (entries || streams) chunks h).1
