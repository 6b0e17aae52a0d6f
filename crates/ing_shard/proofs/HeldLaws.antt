-- What is held beside the streams, after one more is listed and after one has changed.
use Rattle.std.proofs.Common.{◌-◌, ◌≡◌, ℕ, ◌+◌, ◌^◌, ◌≤◌, Bool, List, [], ◌∷◌, ◌++◌, length, cond, true, false, ◌==◌, nat_lt, ap, sym, ◌∙◌, subst, arith, filter, append-nil, All, bytes_eq, is_some, sum_by}
use Rattle.slab.specs.Slab.{Slab, get}
use Rattle.std.proofs.lemmas.List.Elements.{All-weaker}
use Rattle.ing_labels.specs.Canonical.{canonical_of}
use Rattle.ing_labels.specs.Labels.{IsLabelSet}
use Rattle.ing_rows.specs.Rows.{State, empty_state}
use Rattle.ing_rows.specs.Turns.{beside}
use Rattle.ing_checkpoint.specs.Contents.{flights_of}
use Rattle.ing_shard.specs.OneStream.{Stream}
use Rattle.ing_shard.specs.Flights.{AreApart, flights_among, flights_in}
use Rattle.ing_shard.specs.declared.streams.Streams.{Streams}
use Rattle.ing_rows.specs.declared.gauges.Gauges.{Gauges}
use Rattle.ing_shard.specs.Tenants.{find_of, is_known, kept_of, posted_of}
use Rattle.ing_rows.specs.Gauges.{with_changed, no_gauges}
use Rattle.ing_shard.specs.Streams.{key_of, part_of, whole, IsKept, AreDistinct, AreHeld, listed_of, position_of, measure_in, measure_of, measures_of, sum_of}
use Rattle.ing_shard.proofs.ListedLaws.{listed_same}
use Rattle.ing_shard.proofs.PositionLaws.{position_same, distinct_same}
use Rattle.ing_shard.proofs.SumLaws.{measures_changed}
use Rattle.ing_shard.proofs.CountLaws.{chosen_split, count_split, middle, replaced, sum_split}

-- ---- one more stream, without entries

pub whole_more : (sts : List Stream) (st : Stream) → part_of st ≡ empty_state → whole (sts ++ st ∷ []) ≡ whole sts
whole_more [] st none = ap (λ p. beside p empty_state) none
whole_more (f ∷ sts) st none = ap (beside (part_of f)) (whole_more sts st none)

pub measures_nothing : (st : Stream) → part_of st ≡ empty_state → measure_of st ≡ no_gauges
measures_nothing st none = ap (λ (p : State). measure_in p.rows st.tenant) none

none_more : (b : Bool) (n r : ℕ) → n ≡ 0 → r ≡ cond b n 0 + r
none_more true n r none = omega (arith, none)
none_more false n r none = omega arith

sum_more : (f : Gauges → ℕ) (t : List ℕ) (sts : List Stream) (st : Stream) → f (measure_of st) ≡ 0 → sum_of f t sts ≡ sum_of f t (sts ++ st ∷ [])
sum_more f t sts st none =
    none_more (bytes_eq st.tenant t) (f (measure_of st)) (sum_of f t sts) none
    ∙ ap (λ l. cond (bytes_eq st.tenant t) (f (measure_of st)) 0 + sum_of f t l) (sym (append-nil sts))
    ∙ sym (chosen_split (λ o. bytes_eq o.tenant t) (λ o. f (measure_of o)) sts st [])

pub measures_more : (t : List ℕ) (sts : List Stream) (st : Stream) → measure_of st ≡ no_gauges → measures_of t sts ≡ measures_of t (sts ++ st ∷ [])
measures_more t sts st none = λ i. record {
  streams = sum_more (λ k. k.streams) t sts st (ap (λ k. k.streams) none) i;
  head = record { entries = sum_more (λ k. k.head.entries) t sts st (ap (λ k. k.head.entries) none) i; bytes = sum_more (λ k. k.head.bytes) t sts st (ap (λ k. k.head.bytes) none) i };
  block = record { entries = sum_more (λ k. k.block.entries) t sts st (ap (λ k. k.block.entries) none) i; bytes = sum_more (λ k. k.block.bytes) t sts st (ap (λ k. k.block.bytes) none) i };
  flight = record { entries = sum_more (λ k. k.flight.entries) t sts st (ap (λ k. k.flight.entries) none) i; bytes = sum_more (λ k. k.flight.bytes) t sts st (ap (λ k. k.flight.bytes) none) i };
  stored = record { entries = sum_more (λ k. k.stored.entries) t sts st (ap (λ k. k.stored.entries) none) i; bytes = sum_more (λ k. k.stored.bytes) t sts st (ap (λ k. k.stored.bytes) none) i };
}

-- ---- a stream has changed

-- no flight has two chunks, where the sealed chunks are the same
pub apart_kept : {T : Type 0} (taken : Slab T) (front : List Stream) (st now : Stream) (back : List Stream) → AreApart taken (front ++ st ∷ back) → now.chunks.sealed ≡ st.chunks.sealed → AreApart taken (front ++ now ∷ back)
apart_kept taken front st now back apart same f =
    subst (λ n. n ≡ cond (is_some (get taken f)) 1 0)
    (sum_split (flights_in f) front st back
    ∙ ap (λ xs. length (filter (λ g. g == f) (flights_of xs)) + flights_among f (front ++ back)) (sym same)
    ∙ sym (sum_split (flights_in f) front now back))
    (apart f)

pub held_changed : {R : Type 0} (old new : Streams R) (front : List Stream) (st now : Stream) (back : List Stream) → AreHeld old
    → old.list.items ≡ front ++ st ∷ back → new.list.items ≡ front ++ now ∷ back → IsKept now → now.tenant ≡ st.tenant → now.labels ≡ st.labels
    → ((t n : List ℕ) → find_of new.tenants t n ≡ find_of old.tenants t n)
    → ((t : List ℕ) → posted_of new.tenants t ≡ posted_of old.tenants t)
    → ((t : List ℕ) → is_known new.tenants t ≡ is_known old.tenants t)
    → ((t : List ℕ) → kept_of new.tenants t ≡ cond (bytes_eq st.tenant t) (with_changed (kept_of old.tenants st.tenant) (measure_of st) (measure_of now)) (kept_of old.tenants t))
    → new.entries + st.chunks.memory.next ≡ old.entries + now.chunks.memory.next
    → new.stored + (measure_of st).stored.entries ≡ old.stored + (measure_of now).stored.entries
    → new.active + cond (nat_lt 0 st.chunks.memory.next) 1 0 ≡ old.active + cond (nat_lt 0 now.chunks.memory.next) 1 0
    → new.entries ≤ 2 ^ 62 → new.active ≤ 2 ^ 32 - 1 → AreApart new.flights (front ++ now ∷ back) → AreHeld new
held_changed old new front st now back held was is kept tenant labels find posted known sums entries stored active few most apart =
    let key : key_of now ≡ key_of st = λ i. record { tenant = tenant i; name = canonical_of (labels i) } in
    let all = subst (All IsKept) was held.kept in
    let Known : Stream → Type 0 = λ o. is_known new.tenants o.tenant ≡ true in
    let Labelled : Stream → Type 0 = λ o. IsLabelSet o.labels in
    let labelled_before : All Labelled (front ++ st ∷ back) = subst (All Labelled) was held.labelled in
    let known_before : All Known (front ++ st ∷ back) = subst (All Known) was (All-weaker (λ (o : Stream). is_known old.tenants o.tenant ≡ true) Known (λ o h. known o.tenant ∙ h) old.list.items held.known) in
    let next_sum : ◌≡◌ {A = ℕ} new.entries (sum_by (λ o. o.chunks.memory.next) (front ++ now ∷ back)) =
    let before = held.entries ∙ ap (sum_by (λ o. o.chunks.memory.next)) was ∙ sum_split (λ o. o.chunks.memory.next) front st back in
    let after = sum_split (λ o. o.chunks.memory.next) front now back in
    omega (arith, before, after, entries) in
    let stored_sum : ◌≡◌ {A = ℕ} new.stored (sum_by (λ o. (measure_of o).stored.entries) (front ++ now ∷ back)) =
    let before = held.stored ∙ ap (sum_by (λ o. (measure_of o).stored.entries)) was ∙ sum_split (λ o. (measure_of o).stored.entries) front st back in
    let after = sum_split (λ o. (measure_of o).stored.entries) front now back in
    omega (arith, before, after, stored) in
    let counted : ◌≡◌ {A = ℕ} new.active (length (filter (λ o. nat_lt 0 o.chunks.memory.next) (front ++ now ∷ back))) =
    let before = held.active ∙ ap (λ l. length (filter (λ o. nat_lt 0 o.chunks.memory.next) l)) was ∙ count_split (λ o. nat_lt 0 o.chunks.memory.next) front st back in
    let after = count_split (λ o. nat_lt 0 o.chunks.memory.next) front now back in
    omega (arith, before, after, active) in
    record {
      kept = subst (All IsKept) (sym is) (replaced IsKept front st now back all kept);
      distinct = subst AreDistinct (sym is) (distinct_same front st now back key (subst AreDistinct was held.distinct));
      found = λ k. find k.tenant k.name ∙ held.found k ∙ ap (position_of k) was ∙ sym (position_same front st now back key k) ∙ ap (position_of k) (sym is);
      known = subst (All Known) (sym is) (replaced Known front st now back known_before (ap (is_known new.tenants) tenant ∙ middle Known front st back known_before));
      labelled = subst (All Labelled) (sym is) (replaced Labelled front st now back labelled_before (subst IsLabelSet (sym labels) (middle Labelled front st back labelled_before)));
      posted = λ t. posted t ∙ held.posted t ∙ ap (listed_of t) was ∙ sym (listed_same t front st now back tenant labels) ∙ ap (listed_of t) (sym is);
      sums = λ t. sums t
          ∙ (λ i. cond (bytes_eq st.tenant t) (with_changed ((held.sums st.tenant ∙ ap (measures_of st.tenant) was) i) (measure_of st) (measure_of now)) ((held.sums t ∙ ap (measures_of t) was) i))
          ∙ sym (measures_changed front st now back tenant t) ∙ ap (measures_of t) (sym is);
      entries = next_sum ∙ ap (sum_by (λ o. o.chunks.memory.next)) (sym is);
      stored = stored_sum ∙ ap (sum_by (λ o. (measure_of o).stored.entries)) (sym is);
      active = counted ∙ ap (λ l. length (filter (λ o. nat_lt 0 o.chunks.memory.next) l)) (sym is);
      few = few;
      most = most;
      flights = subst (AreApart new.flights) (sym is) apart;
    }
