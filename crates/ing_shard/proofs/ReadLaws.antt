-- What is read of a shard's streams is what the whole gives.
use Rattle.std.proofs.Common.{◌≡◌, ℕ, ◌==◌, Bool, List, [], ◌∷◌, ◌++◌, length, false, ◌&&◌, None, refl, ap, sym, ◌∙◌, subst, filter, append-nil, All}
use Rattle.std.proofs.lemmas.List.Elements.{All-weaker, filter-append}
use Rattle.ing_rows.specs.declared.gauges.Gauges.{Gauges}
use Rattle.ing_rows.specs.declared.place.Place.{Place}
use Rattle.ing_rows.specs.Gauges.{gauge_of, gauges_of}
use Rattle.ing_rows.specs.Rows.{StreamKey, Row, State, empty_state, same_stream, is_block, is_head, is_in_flight, is_stored, live_streams, streams_of, chunk_starts}
use Rattle.ing_rows.specs.Facts.{facts_of}
use Rattle.ing_rows.specs.Sound.{IsSound}
use Rattle.ing_shard.specs.OneStream.{Stream}
use Rattle.ing_shard.specs.declared.streams.Streams.{Streams}
use Rattle.ing_rows.specs.declared.gauges.Gauges.{Gauges}
use Rattle.ing_shard.specs.Tenants.{kept_of}
use Rattle.ing_shard.specs.Streams.{key_of, part_of, whole, facts_kept, with_live, IsKept, AreHeld, measure_of, sum_of}
use Rattle.ing_shard.proofs.CountLaws.{bytes_total, entries_total, filter_eq, filter_false, middle, reordered, rows_total, stored_total, streams_total}
use Rattle.ing_shard.proofs.LiveLaws.{live_total}
use Rattle.ing_shard.specs.Contents.{stored_count}
use Rattle.ing_shard.proofs.PositionLaws.{Splits}
use Rattle.ing_shard.proofs.WholeLaws.{AreOthers, FactsGo, FactsBeside, SoundBeside, whole_front, whole_sound, whole_facts, unlisted_facts, others_rows}

abbrev pub CountsStreams : Type 0
CountsStreams = (st : State) → IsSound st → length (streams_of st.rows) ≡ length (filter (λ r. r.number == 0) st.rows)

no_starts : (s : StreamKey) (rows : List Row) → All (λ r. same_stream r.stream s ≡ false) rows → chunk_starts s rows ≡ []
no_starts s rows others =
    filter_eq (λ r. same_stream r.stream s && (r.number == r.chunk)) (λ r. false) rows
    (All-weaker (λ (r : Row). same_stream r.stream s ≡ false) (λ (r : Row). (same_stream r.stream s && (r.number == r.chunk)) ≡ false) (λ r h. ap (λ b. b && (r.number == r.chunk)) h) rows others)
    ∙ filter_false rows

module _ (go : FactsGo) (beside_facts : FactsBeside) (joined : SoundBeside) (fresh : IsSound empty_state) (counts_streams : CountsStreams) {R : Type 0} (streams : Streams R) (held : AreHeld streams) where
  abbrev all : State
  all = whole streams.list.items

  pub sound : IsSound (whole streams.list.items)
  sound = whole_sound joined fresh streams.list.items held.distinct held.kept

  pub live_is : (t : List ℕ) → length (live_streams (whole streams.list.items).rows t) ≡ (kept_of streams.tenants t).streams
  live_is t = live_total t streams.list.items held.distinct ∙ ap (λ k. k.streams) (sym (held.sums t))

  pub facts_listed : (s : StreamKey) (i : ℕ) (split : Splits s streams.list.items i) → facts_of (whole streams.list.items).rows s ≡ with_live (kept_of streams.tenants s.tenant).streams (facts_kept split.st)
  facts_listed s i split =
      let kept : IsKept split.st = middle IsKept split.front split.st split.back (subst (All IsKept) split.is held.kept) in
      let here : facts_of (whole (split.front ++ split.st ∷ split.back)).rows (key_of split.st) ≡ with_live (length (live_streams (whole (split.front ++ split.st ∷ split.back)).rows split.st.tenant)) (facts_kept split.st) =
      whole_facts go beside_facts split.front split.st split.back (subst (λ l. IsSound (whole l)) split.is sound) kept (subst (λ k. AreOthers k (split.front ++ split.back)) (sym split.key) split.others) in
      let there : facts_of (whole streams.list.items).rows (key_of split.st) ≡ with_live (length (live_streams (whole streams.list.items).rows (key_of split.st).tenant)) (facts_kept split.st) =
      subst (λ l. facts_of (whole l).rows (key_of split.st) ≡ with_live (length (live_streams (whole l).rows split.st.tenant)) (facts_kept split.st)) (sym split.is) here in
      subst (λ k. facts_of (whole streams.list.items).rows k ≡ with_live (length (live_streams (whole streams.list.items).rows k.tenant)) (facts_kept split.st)) split.key there
      ∙ ap (λ n. with_live n (facts_kept split.st)) (live_is s.tenant)

  pub facts_unlisted : (s : StreamKey) → AreOthers s streams.list.items → facts_of (whole streams.list.items).rows s ≡ record { count = 0; greatest = 0; last = None; is_live = false; live = (kept_of streams.tenants s.tenant).streams }
  facts_unlisted s others = unlisted_facts beside_facts s streams.list.items others ∙ ap (λ n. record { count = 0; greatest = 0; last = None; is_live = false; live = n }) (live_is s.tenant)

  pub starts_listed : (s : StreamKey) (i : ℕ) (split : Splits s streams.list.items i) → length (chunk_starts s (whole streams.list.items).rows) ≡ length (chunk_starts s (part_of split.st).rows)
  starts_listed s i split =
      let rest = (whole (split.front ++ split.back)).rows in
      let p : Row → Bool = λ r. same_stream r.stream s && (r.number == r.chunk) in
      ap (λ l. length (chunk_starts s (whole l).rows)) split.is
      ∙ reordered p (whole (split.front ++ split.st ∷ split.back)).rows ((part_of split.st).rows ++ rest) (whole_front split.front split.st split.back).rows
      ∙ ap length (filter-append p (part_of split.st).rows rest ∙ ap (λ l. filter p (part_of split.st).rows ++ l) (no_starts s rest (others_rows s (split.front ++ split.back) split.others)) ∙ append-nil (filter p (part_of split.st).rows))

  pub starts_unlisted : (s : StreamKey) → AreOthers s streams.list.items → length (chunk_starts s (whole streams.list.items).rows) ≡ 0
  starts_unlisted s others = ap length (no_starts s (whole streams.list.items).rows (others_rows s streams.list.items others))

  pub entries_are : length (whole streams.list.items).rows ≡ streams.entries
  entries_are = rows_total streams.list.items held.kept ∙ sym held.entries

  pub active_are : length (streams_of (whole streams.list.items).rows) ≡ streams.active
  active_are = counts_streams all sound ∙ streams_total streams.list.items held.kept ∙ sym held.active

  pub stored_are : stored_count (whole streams.list.items).rows ≡ streams.stored
  stored_are = stored_total streams.list.items ∙ sym held.stored

  -- ---- gauges

  pub gauges_are : (t : List ℕ) → kept_of streams.tenants t ≡ gauges_of (whole streams.list.items).rows t
  gauges_are t =
      let sts = streams.list.items in
      let entries : (at : Place → Bool) (f : Gauges → ℕ) → f (kept_of streams.tenants t) ≡ sum_of f t sts → ((st : Stream) → f (measure_of st) ≡ (gauge_of at (part_of st).rows st.tenant).entries) → f (kept_of streams.tenants t) ≡ (gauge_of at (whole sts).rows t).entries =
      λ at f sums is. sums ∙ sym (entries_total at (λ st. f (measure_of st)) is t sts) in
      let bytes : (at : Place → Bool) (f : Gauges → ℕ) → f (kept_of streams.tenants t) ≡ sum_of f t sts → ((st : Stream) → f (measure_of st) ≡ (gauge_of at (part_of st).rows st.tenant).bytes) → f (kept_of streams.tenants t) ≡ (gauge_of at (whole sts).rows t).bytes =
      λ at f sums is. sums ∙ sym (bytes_total at (λ st. f (measure_of st)) is t sts) in
      λ i. record {
        streams = sym (live_is t) i;
        head = record { entries = entries is_head (λ k. k.head.entries) (ap (λ k. k.head.entries) (held.sums t)) (λ st. refl) i; bytes = bytes is_head (λ k. k.head.bytes) (ap (λ k. k.head.bytes) (held.sums t)) (λ st. refl) i };
        block = record { entries = entries is_block (λ k. k.block.entries) (ap (λ k. k.block.entries) (held.sums t)) (λ st. refl) i; bytes = bytes is_block (λ k. k.block.bytes) (ap (λ k. k.block.bytes) (held.sums t)) (λ st. refl) i };
        flight = record { entries = entries is_in_flight (λ k. k.flight.entries) (ap (λ k. k.flight.entries) (held.sums t)) (λ st. refl) i; bytes = bytes is_in_flight (λ k. k.flight.bytes) (ap (λ k. k.flight.bytes) (held.sums t)) (λ st. refl) i };
        stored = record { entries = entries is_stored (λ k. k.stored.entries) (ap (λ k. k.stored.entries) (held.sums t)) (λ st. refl) i; bytes = bytes is_stored (λ k. k.stored.bytes) (ap (λ k. k.stored.bytes) (held.sums t)) (λ st. refl) i };
      }
