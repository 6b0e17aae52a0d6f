-- What is held beside the streams, and what the books count, after one more is listed that has entries.
use Rattle.std.proofs.Common.{◌≡◌, ℕ, ◌+◌, ◌*◌, ◌<◌, ◌≤◌, ◌^◌, ◌-◌, ◌&&◌, ◌==◌, Bool, List, [], ◌∷◌, ◌++◌, length, map, cond, true, nat_lt, Some, None, refl, ap, sym, ◌∙◌, subst, arith, filter, append-nil, All, bytes_eq, sum_by, lt-ltb, OnErr, OnOk, Result, Ok, Err}
use Rattle.slab.specs.Slab.{Slab}
use Rattle.std.proofs.lemmas.List.{map_push}
use Rattle.std.proofs.lemmas.List.Elements.{All-push, All-weaker}
use Rattle.std.proofs.lemmas.List.Sums.{sum_by_push}
use Rattle.ing_labels.specs.Canonical.{canonical_of}
use Rattle.ing_labels.specs.Labels.{IsLabelSet}
use Rattle.ing_rows.specs.Rows.{is_stored, same_stream}
use Rattle.ing_checkpoint.specs.Slots.{Slot}
use Rattle.ing_checkpoint.specs.Contents.{flights_of}
use Rattle.ing_checkpoint.specs.Sums.{flying_in}
use Rattle.ing_checkpoint.proofs.Flying.{no_flights}
use Rattle.ing_shard.specs.OneStream.{Stream}
use Rattle.ing_shard.specs.Books.{Count, with_accepted}
use Rattle.ing_shard.specs.Contents.{chunks_flying}
use Rattle.ing_shard.specs.Flights.{AreApart, flights_in}
use Rattle.ing_shard.specs.Recovered.{counts_with}
use Rattle.ing_shard.specs.declared.streams.Streams.{Streams}
use Rattle.ing_rows.specs.declared.gauges.Gauges.{Gauges}
use Rattle.ing_shard.specs.Tenants.{find_of, is_known, kept_of, listed_as, posted_of}
use Rattle.ing_rows.specs.Gauges.{HaveRoom, AreWithin, with_changed, no_gauges}
use Rattle.ing_shard.specs.Streams.{AreDistinct, AreHeld, IsKept, counted_by, counts_of, entries_flying, key_of, listed_of, measure_of, measures_of, position_of, slots_of}
use Rattle.ing_shard.proofs.BookLaws.{few_stored}
use Rattle.ing_shard.proofs.ChangeLaws.{begun_fits}
use Rattle.ing_shard.proofs.CountLaws.{count_split}
use Rattle.ing_shard.proofs.HeldLaws.{measures_more, measures_nothing}
use Rattle.ing_shard.proofs.ListedLaws.{listed_more}
use Rattle.ing_shard.proofs.PositionLaws.{distinct_more, none_others, position_more}
use Rattle.ing_shard.proofs.SumLaws.{measures_changed}
use Rattle.ing_shard.proofs.TakeLaws.{entries_small}

-- what follows where one more is listed, and where none is
pub on_either : {T E P Q C : Type 0} (r : Result T E) → (P → C) → (Q → C) → OnOk r P → OnErr r Q → C
on_either (Ok x) ok err p q = ok p
on_either (Err e) ok err p q = err q

-- ---- sums over tenants

-- the stream before its first entry
abbrev pub without_entries : Stream → Stream
without_entries st =
    record {
      tenant = st.tenant;
      labels = st.labels;
      greatest = 0;
      last = None;
      chunks = record { memory = record { next = 0; waiting = []; growing = None }; sealed = [] };
    }

begun_nothing : (st : Stream) → measure_of (without_entries st) ≡ no_gauges
begun_nothing st = measures_nothing (without_entries st) refl

-- those of its tenant have what it adds
measures_with : (t : List ℕ) (sts : List Stream) (st : Stream)
    → measures_of t (sts ++ st ∷ []) ≡ cond (bytes_eq st.tenant t) (with_changed (measures_of st.tenant sts) no_gauges (measure_of st)) (measures_of t sts)
measures_with t sts st =
    let before = without_entries st in
    let none = begun_nothing st in
    measures_changed sts before st [] refl t
    ∙ (λ i. cond (bytes_eq st.tenant t) (with_changed (sym (measures_more st.tenant sts before none) i) (none i) (measure_of st)) (sym (measures_more t sts before none) i))

-- nothing is within any sums
pub nothing_within : (sums : Gauges) → AreWithin no_gauges sums
nothing_within sums = record {
  streams = omega arith;
  head = record { entries = omega arith; bytes = omega arith };
  block = record { entries = omega arith; bytes = omega arith };
  flight = record { entries = omega arith; bytes = omega arith };
  stored = record { entries = omega arith; bytes = omega arith };
}

-- ---- flights

-- none of its chunks is in flight
apart_with : {T : Type 0} (taken : Slab T) (sts : List Stream) (st : Stream) → flights_of st.chunks.sealed ≡ [] → AreApart taken sts → AreApart taken (sts ++ st ∷ [])
apart_with taken sts st landed apart f =
    let none = ap (λ gs. length (filter (λ g. g == f) gs)) landed in
    let all = sum_by_push (flights_in f) sts st in
    let is = apart f in
    omega (arith, none, all, is)

-- what was accepted is all that the books count of it, where none of it is stored
pub counts_accepted : (st : Stream) (n : ℕ) (count : Count) → st.chunks.memory.next ≡ n → (measure_of st).stored.entries ≡ 0 → counts_with st count ≡ with_accepted n count
counts_accepted st n count next none =
    let stored : count.stored + (measure_of st).stored.entries ≡ count.stored = omega (arith, none) in
    λ i. record count { accepted = count.accepted + next i; stored = stored i }

module _ {R : Type 0} (old : Streams R) (st : Stream) (held : AreHeld old) where
  -- its tenant's sums can be kept with what it adds
  pub fits_with : IsKept st → old.entries + st.chunks.memory.next ≤ 2 ^ 62 → HaveRoom (with_changed (kept_of old.tenants st.tenant) no_gauges (measure_of st))
  fits_with kept few =
      subst (λ none. HaveRoom (with_changed (kept_of old.tenants st.tenant) none (measure_of st))) (begun_nothing st)
      (begun_fits old (without_entries st) st held refl refl refl kept few)

  -- no more are stored with it than there are entries
  pub stored_with : IsKept st → old.stored + (measure_of st).stored.entries ≤ old.entries + st.chunks.memory.next
  stored_with kept =
      let all = few_stored old held in
      let own : (measure_of st).stored.entries ≤ st.chunks.memory.next * 1 = entries_small st (λ r. bytes_eq r.stream.tenant st.tenant && is_stored r.place) kept in
      omega (arith, all, own)

  -- ---- what the books count

  -- a sum over sealed chunks is the same where those of the stream add nothing
  slots_with : (g : List Slot → ℕ) → g st.chunks.sealed ≡ 0 → sum_by g (map slots_of (old.list.items ++ st ∷ [])) ≡ sum_by g (map slots_of old.list.items)
  slots_with g none =
      let all = ap (sum_by g) (map_push slots_of old.list.items st) ∙ sum_by_push g (map slots_of old.list.items) st.chunks.sealed in
      omega (arith, all, none)

  pub counts_listed : (entries stored : ℕ) (news : List Stream) → news ≡ old.list.items ++ st ∷ [] → flights_of st.chunks.sealed ≡ []
      → entries ≡ old.entries + st.chunks.memory.next → stored ≡ old.stored + (measure_of st).stored.entries
      → counted_by entries stored (map slots_of news) ≡ counts_with st (counts_of old)
  counts_listed entries stored news is landed more more_stored =
      let chunks = ap (λ l. chunks_flying (map slots_of l)) is ∙ slots_with (λ slots. length (flights_of slots)) (ap length landed) in
      let flying = ap (λ l. entries_flying (map slots_of l)) is ∙ slots_with flying_in (no_flights st.chunks.sealed (ap length landed)) in
      λ i. record { accepted = more i; flying = flying i; chunks = chunks i; stored = more_stored i }

  -- ---- what is held

  pub held_with : (new : Streams R) → new.list.items ≡ old.list.items ++ st ∷ [] → IsKept st → 0 < st.chunks.memory.next
      → position_of (key_of st) old.list.items ≡ None
      → ((t n : List ℕ) → find_of new.tenants t n ≡ cond (bytes_eq st.tenant t && bytes_eq (canonical_of st.labels) n) (Some (length old.list.items)) (find_of old.tenants t n))
      → ((t : List ℕ) → posted_of new.tenants t ≡ cond (bytes_eq st.tenant t) (posted_of old.tenants t ++ listed_as (length old.list.items) st.labels ∷ []) (posted_of old.tenants t))
      → IsLabelSet st.labels
      → is_known new.tenants st.tenant ≡ true
      → ((t : List ℕ) → is_known old.tenants t ≡ true → is_known new.tenants t ≡ true)
      → ((t : List ℕ) → kept_of new.tenants t ≡ cond (bytes_eq st.tenant t) (with_changed (kept_of old.tenants st.tenant) no_gauges (measure_of st)) (kept_of old.tenants t))
      → new.entries ≡ old.entries + st.chunks.memory.next
      → new.stored ≡ old.stored + (measure_of st).stored.entries
      → new.active ≡ old.active + 1
      → new.entries ≤ 2 ^ 62 → old.active < 2 ^ 32 - 1 → new.flights ≡ old.flights → flights_of st.chunks.sealed ≡ [] → AreHeld new
  held_with new is kept some absent find posted label_set known stay sums entries stored active few room taken landed =
      let sts = old.list.items in
      let others = none_others (key_of st) sts absent in
      let Known : Stream → Type 0 = λ o. is_known new.tenants o.tenant ≡ true in
      let Labelled : Stream → Type 0 = λ o. IsLabelSet o.labels in
      let begun : Stream → Bool = λ o. nat_lt 0 o.chunks.memory.next in
      let all = held.entries in
      let all_stored = held.stored in
      let all_active = held.active in
      let more_entries = sum_by_push (λ (o : Stream). o.chunks.memory.next) sts st in
      let more_stored = sum_by_push (λ (o : Stream). (measure_of o).stored.entries) sts st in
      let more_begun : ◌≡◌ {A = ℕ} (length (filter begun (sts ++ st ∷ []))) (1 + length (filter begun sts)) =
      count_split begun sts st [] ∙ (λ i. cond (lt-ltb 0 st.chunks.memory.next some i) 1 0 + length (filter begun (append-nil sts i))) in
      record {
        kept = subst (All IsKept) (sym is) (All-push IsKept sts st held.kept kept);
        distinct = subst AreDistinct (sym is) (distinct_more sts st held.distinct others);
        found = λ k. find k.tenant k.name ∙ ap (cond (same_stream (key_of st) k) (Some (length sts))) (held.found k) ∙ sym (position_more sts st others k) ∙ ap (position_of k) (sym is);
        known = subst (All Known) (sym is) (All-push Known sts st (All-weaker (λ (o : Stream). is_known old.tenants o.tenant ≡ true) Known (λ o. stay o.tenant) sts held.known) known);
        labelled = subst (All Labelled) (sym is) (All-push Labelled sts st held.labelled label_set);
        posted = λ t. posted t ∙ ap (λ l. cond (bytes_eq st.tenant t) (l ++ listed_as (length sts) st.labels ∷ []) l) (held.posted t) ∙ sym (listed_more t sts st) ∙ ap (listed_of t) (sym is);
        sums = λ t. sums t ∙ (λ i. cond (bytes_eq st.tenant t) (with_changed (held.sums st.tenant i) no_gauges (measure_of st)) (held.sums t i)) ∙ sym (measures_with t sts st) ∙ ap (measures_of t) (sym is);
        entries = subst (λ l. new.entries ≡ sum_by (λ o. o.chunks.memory.next) l) (sym is) (omega (arith, entries, all, more_entries));
        stored = subst (λ l. new.stored ≡ sum_by (λ o. (measure_of o).stored.entries) l) (sym is) (omega (arith, stored, all_stored, more_stored));
        active = subst (λ l. new.active ≡ length (filter begun l)) (sym is) (omega (arith, active, all_active, more_begun));
        few = few;
        most = omega (arith, active, room);
        flights = subst (AreApart new.flights) (sym is) (subst (λ (t : Slab _). AreApart t (sts ++ st ∷ [])) (sym taken) (apart_with old.flights sts st landed held.flights));
      }
