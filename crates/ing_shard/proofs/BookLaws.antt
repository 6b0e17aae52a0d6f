-- What the books of a shard count: sums over its streams, and counts of its rows.
use Rattle.std.proofs.Common.{◌≡◌, ℕ, ◌+◌, ◌≤◌, ◌<◌, List, [], ◌∷◌, ◌++◌, length, map, filter, set, refl, ap, sym, ◌∙◌, arith, IsPermutation, sum_by}
use Rattle.std.specs.Prelude.{All}
use Rattle.std.proofs.lemmas.List.{length-append}
use Rattle.std.proofs.lemmas.List.Elements.{All-head, All-tail, filter-append}
use Rattle.std.proofs.lemmas.List.Sums.{sum_by-append, sum_by-cons}
use Rattle.std.proofs.lemmas.List.Sorted.{length_permutation}
use Rattle.ing_rows.specs.Rows.{Row, is_in_flight, is_stored}
use Rattle.ing_checkpoint.specs.Slots.{Slot}
use Rattle.ing_checkpoint.specs.Contents.{flights_of}
use Rattle.ing_checkpoint.specs.Sums.{MoreAreStored, MoreFly, flying_in, stored_in}
use Rattle.ing_checkpoint.proofs.Flying.{no_flights}
use Rattle.ing_checkpoint.proofs.GaugeLaws.{gauge_claimed}
use Rattle.ing_shard.specs.OneStream.{Stream}
use Rattle.ing_tally.specs.Books.{BookState}
use Rattle.ing_chunk.specs.Chunks.{ChunkContents, IsWhole, count_in, in_blocks}
use Rattle.ing_checkpoint.proofs.JoinLaws.{some_block}
use Rattle.ing_shard.specs.Books.{BookStates, Count, lent, raised, told_by, with_accepted, with_flown, with_stored}
use Rattle.ing_shard.specs.Contents.{BooksCount, Contents, chunks_flying, flying_count, stored_count}
use Rattle.ing_shard.specs.declared.streams.Streams.{Streams}
use Rattle.ing_rows.specs.declared.gauges.Gauges.{Gauges}
use Rattle.ing_shard.specs.Streams.{AreHeld, IsKept, counted_by, counts_of, entries_flying, key_of, measure_of, part_of, slots_of, whole}
use Rattle.ing_shard.proofs.ChangeLaws.{Around, stored_of, written_in}
use Rattle.ing_shard.proofs.CountLaws.{filter_short, own_rows, rows_total, stored_total}

-- ---- the same sealed chunks

count_is : (a b : Count) → a.accepted ≡ b.accepted → a.flying ≡ b.flying → a.chunks ≡ b.chunks → a.stored ≡ b.stored → a ≡ b
count_is a b accepted flying chunks stored = λ i. record { accepted = accepted i; flying = flying i; chunks = chunks i; stored = stored i }

module _ {R : Type 0} (old : Streams R) (entries stored : ℕ) (news : List Stream) (same_stored : stored ≡ old.stored) where
  -- so many more are accepted, and no sealed chunk has changed
  pub counts_more : (n : ℕ) → entries ≡ old.entries + n → map slots_of news ≡ map slots_of old.list.items → counted_by entries stored (map slots_of news) ≡ with_accepted n (counts_of old)
  counts_more n more sealed = count_is (counted_by entries stored (map slots_of news)) (with_accepted n (counts_of old)) more (ap entries_flying sealed) (ap chunks_flying sealed) same_stored

  pub counts_same : entries ≡ old.entries → map slots_of news ≡ map slots_of old.list.items → counted_by entries stored (map slots_of news) ≡ counts_of old
  counts_same same sealed = count_is (counted_by entries stored (map slots_of news)) (counts_of old) same (ap entries_flying sealed) (ap chunks_flying sealed) same_stored

-- ---- one stream has changed

sum_mapped : (g : List Slot → ℕ) (sts : List Stream) → sum_by g (map slots_of sts) ≡ sum_by (λ st. g (slots_of st)) sts
sum_mapped g [] = refl
sum_mapped g (st ∷ sts) =
    sum_by-cons g (slots_of st) (map slots_of sts) ∙ ap (λ n. g (slots_of st) + n) (sum_mapped g sts) ∙ sym (sum_by-cons (λ (o : Stream). g (slots_of o)) st sts)

sum_around : (g : List Slot → ℕ) (front : List Stream) (st : Stream) (back : List Stream)
    → sum_by g (map slots_of (front ++ st ∷ back)) ≡ sum_by (λ o. g (slots_of o)) front + (g (slots_of st) + sum_by (λ o. g (slots_of o)) back)
sum_around g front st back =
    sum_mapped g (front ++ st ∷ back) ∙ sum_by-append (λ (o : Stream). g (slots_of o)) front (st ∷ back)
    ∙ ap (λ n. sum_by (λ o. g (slots_of o)) front + n) (sum_by-cons (λ (o : Stream). g (slots_of o)) st back)

module _ {R : Type 0} (old : Streams R) {i : ℕ} {st : Stream} (now : Stream) {m : Gauges} (split : Around old.list.items i st) (is : m ≡ measure_of st) (stored : ℕ) (total : stored + m.stored.entries ≡ old.stored + (measure_of now).stored.entries) where
  abbrev counts_now : Count
  counts_now = counted_by old.entries stored (map slots_of (set old.list.items i now))

  -- a sum over sealed chunks has changed by what that stream has more
  changed_by : (g : List Slot → ℕ) → sum_by g (map slots_of (set old.list.items i now)) + g (slots_of st) ≡ sum_by g (map slots_of old.list.items) + g (slots_of now)
  changed_by g =
      let before = ap (λ l. sum_by g (map slots_of l)) split.is ∙ sum_around g split.front st split.back in
      let after = ap (λ l. sum_by g (map slots_of l)) (written_in split now) ∙ sum_around g split.front now split.back in
      omega (arith, before, after)

  stored_by : stored + stored_in (slots_of st) ≡ old.stored + stored_in (slots_of now)
  stored_by =
      let was = ap (λ k. k.stored.entries) is ∙ stored_of st in
      let after = stored_of now in
      omega (arith, total, was, after)

  -- it has one more chunk in flight
  pub counts_flown : (n f : ℕ) → MoreFly n (slots_of st) (slots_of now) → IsPermutation (flights_of (slots_of now)) (f ∷ flights_of (slots_of st)) → counts_now ≡ with_flown n (counts_of old)
  counts_flown n f more flies =
      let flying = changed_by flying_in in
      let chunks = changed_by (λ slots. length (flights_of slots)) in
      let here = more.flying in
      let same = more.stored in
      let kept = stored_by in
      let one = length_permutation (flights_of (slots_of now)) (f ∷ flights_of (slots_of st)) flies in
      count_is counts_now (with_flown n (counts_of old)) refl (omega (arith, flying, here)) (omega (arith, chunks, one)) (omega (arith, kept, same))

  pub counts_still : MoreFly 0 (slots_of st) (slots_of now) → flights_of (slots_of now) ≡ flights_of (slots_of st) → counts_now ≡ counts_of old
  counts_still more flies =
      let flying = changed_by flying_in in
      let chunks = changed_by (λ slots. length (flights_of slots)) in
      let here = more.flying in
      let same = more.stored in
      let kept = stored_by in
      let one = ap length flies in
      count_is counts_now (counts_of old) refl (omega (arith, flying, here)) (omega (arith, chunks, one)) (omega (arith, kept, same))

  -- it has one less
  pub counts_landed : (n f : ℕ) → MoreFly n (slots_of now) (slots_of st) → IsPermutation (f ∷ flights_of (slots_of now)) (flights_of (slots_of st)) → counts_of old ≡ with_flown n (counts_now)
  counts_landed n f more flies =
      let flying = changed_by flying_in in
      let chunks = changed_by (λ slots. length (flights_of slots)) in
      let here = more.flying in
      let same = more.stored in
      let kept = stored_by in
      let one = length_permutation (f ∷ flights_of (slots_of now)) (flights_of (slots_of st)) flies in
      count_is (counts_of old) (with_flown n (counts_now)) refl (omega (arith, flying, here)) (omega (arith, chunks, one)) (omega (arith, kept, same))

  -- and it is stored
  pub counts_stored : (n f : ℕ) → MoreAreStored n (slots_of st) (slots_of now) → IsPermutation (f ∷ flights_of (slots_of now)) (flights_of (slots_of st)) → with_stored n (counts_of old) ≡ with_flown n (counts_now)
  counts_stored n f more flies =
      let flying = changed_by flying_in in
      let chunks = changed_by (λ slots. length (flights_of slots)) in
      let here = more.flying in
      let same = more.stored in
      let kept = stored_by in
      let one = length_permutation (f ∷ flights_of (slots_of now)) (flights_of (slots_of st)) flies in
      count_is (with_stored n (counts_of old)) (with_flown n (counts_now)) refl (omega (arith, flying, here)) (omega (arith, chunks, one)) (omega (arith, kept, same))

-- ---- the rows

flying_of : (st : Stream) → (measure_of st).flight.entries ≡ flying_in st.chunks.sealed
flying_of st = ap (λ g. g.entries) (gauge_claimed is_in_flight refl refl (key_of st) st.chunks.memory st.chunks.sealed)

-- how many rows are in flight
pub flying_total : (sts : List Stream) → flying_count (whole sts).rows ≡ entries_flying (map slots_of sts)
flying_total [] = refl
flying_total (st ∷ sts) =
    ap length (filter-append (λ (r : Row). is_in_flight r.place) (part_of st).rows (whole sts).rows)
    ∙ length-append (filter (λ (r : Row). is_in_flight r.place) (part_of st).rows) (filter (λ (r : Row). is_in_flight r.place) (whole sts).rows)
    ∙ (λ i. (ap length (sym (own_rows st (λ r. is_in_flight r.place))) ∙ flying_of st) i + flying_total sts i)
    ∙ sym (sum_by-cons flying_in (slots_of st) (map slots_of sts))

-- each chunk in flight has an entry
pub chunks_have_entries : (sts : List Stream) → All IsKept sts → chunks_flying (map slots_of sts) ≤ entries_flying (map slots_of sts)
chunks_have_entries [] kept = omega arith
chunks_have_entries (st ∷ sts) kept =
    let here : length (flights_of st.chunks.sealed) ≤ flying_in st.chunks.sealed = (All-head IsKept st sts kept).flights in
    let rest = chunks_have_entries sts (All-tail IsKept st sts kept) in
    let chunks = sum_by-cons (λ (slots : List Slot). length (flights_of slots)) (slots_of st) (map slots_of sts) in
    let entries = sum_by-cons flying_in (slots_of st) (map slots_of sts) in
    omega (arith, here, rest, chunks, entries)

-- where no chunk is in flight, no entry is
none_fly : (sealed : List (List Slot)) → chunks_flying sealed ≡ 0 → entries_flying sealed ≡ 0
none_fly [] none = refl
none_fly (xs ∷ sealed) none =
    let chunks = sum_by-cons (λ (slots : List Slot). length (flights_of slots)) xs sealed in
    let entries = sum_by-cons flying_in xs sealed in
    let here = no_flights xs (omega (arith, none, chunks)) in
    let rest = none_fly sealed (omega (arith, none, chunks)) in
    omega (arith, entries, here, rest)

module _ {R : Type 0} (streams : Streams R) (held : AreHeld streams) where
  -- so neither passes the entries, and these have a last value
  pub few_fly : (entries_flying (map slots_of streams.list.items) ≤ streams.entries) × (chunks_flying (map slots_of streams.list.items) ≤ entries_flying (map slots_of streams.list.items))
  few_fly =
      let all = rows_total streams.list.items held.kept in
      let flying = flying_total streams.list.items in
      let short = filter_short (λ (r : Row). is_in_flight r.place) (whole streams.list.items).rows in
      let entries = held.entries in
      (omega (arith, all, flying, short, entries), chunks_have_entries streams.list.items held.kept)

  pub few_stored : streams.stored ≤ streams.entries
  few_stored =
      let all = rows_total streams.list.items held.kept in
      let stored = stored_total streams.list.items in
      let short = filter_short (λ (r : Row). is_stored r.place) (whole streams.list.items).rows in
      let entries = held.entries in
      let total = held.stored in
      omega (arith, all, stored, short, entries, total)

  -- the books count the rows
  pub books_count : (contents : Contents) → contents.sealed ≡ map slots_of streams.list.items → contents.state ≡ whole streams.list.items → told_by contents.books ≡ counts_of streams → BooksCount contents
  books_count contents sealed state told = record {
    accepted = ap (λ (k : Count). k.accepted) told ∙ held.entries ∙ sym (rows_total streams.list.items held.kept) ∙ ap (λ st. length st.rows) (sym state);
    flight = ap (λ (k : Count). k.flying) told ∙ sym (flying_total streams.list.items) ∙ ap (λ st. flying_count st.rows) (sym state);
    stored = ap (λ (k : Count). k.stored) told ∙ held.stored ∙ sym (stored_total streams.list.items) ∙ ap (λ st. stored_count st.rows) (sym state);
    out = ap (λ (k : Count). k.chunks) told ∙ ap chunks_flying (sym sealed);
    landed = λ none. ap (λ st. flying_count st.rows) state ∙ flying_total streams.list.items ∙ none_fly (map slots_of streams.list.items) (ap chunks_flying (sym sealed) ∙ none);
  }

-- ---- what the books tell after a call

module _ (old : BookStates) (a b : Count) (told : told_by old ≡ a) (k n : ℕ) (same : k ≡ n) where
  pub told_accepted : (accepted : BookState) → accepted ≡ raised k old.accepted → b ≡ with_accepted n a → told_by (record old { accepted = accepted }) ≡ b
  told_accepted accepted is next = (λ i. told_by (record old { accepted = is i })) ∙ (λ i. with_accepted (same i) (told i)) ∙ sym next

  pub told_flown : (flight : BookState) → flight ≡ lent k old.flight → b ≡ with_flown n a → told_by (record old { flight = flight }) ≡ b
  told_flown flight is next = (λ i. told_by (record old { flight = is i })) ∙ (λ i. with_flown (same i) (told i)) ∙ sym next

  pub told_landed : (flight : BookState) → old.flight ≡ lent k flight → a ≡ with_flown n b → told_by (record old { flight = flight }) ≡ b
  told_landed flight is next =
      let number = ap (λ (f : BookState). f.number) is in
      let out = ap (λ (f : BookState). f.out) is in
      let flying = ap (λ (c : Count). c.flying) (told ∙ next) in
      let chunks = ap (λ (c : Count). c.chunks) (told ∙ next) in
      count_is (told_by (record old { flight = flight })) b (ap (λ (c : Count). c.accepted) (told ∙ next)) (omega (arith, number, flying, same)) (omega (arith, out, chunks)) (ap (λ (c : Count). c.stored) (told ∙ next))

  pub told_stored : (flight stored : BookState) → old.flight ≡ lent k flight → stored ≡ raised k old.stored → with_stored n a ≡ with_flown n b → told_by (record old { flight = flight; stored = stored }) ≡ b
  told_stored flight stored is raises next =
      let number = ap (λ (f : BookState). f.number) is in
      let out = ap (λ (f : BookState). f.out) is in
      let flying = ap (λ (c : Count). c.flying) (ap (with_stored n) told ∙ next) in
      let chunks = ap (λ (c : Count). c.chunks) (ap (with_stored n) told ∙ next) in
      let more = ap (λ (f : BookState). f.number) raises in
      let total = ap (λ (c : Count). c.stored) (ap (with_stored n) told ∙ next) in
      count_is (told_by (record old { flight = flight; stored = stored })) b (ap (λ (c : Count). c.accepted) (ap (with_stored n) told ∙ next)) (omega (arith, number, flying, same)) (omega (arith, out, chunks)) (omega (arith, more, total, same))

-- a whole chunk has an entry, and all of them in its blocks
pub whole_entries : (c : ChunkContents) → IsWhole c → (count_in c ≡ length (in_blocks c.blocks)) × (0 < length (in_blocks c.blocks))
whole_entries c whole =
    let head = ap length whole.closed in
    (omega (arith, head), some_block c.first c.blocks whole.some whole.parts)
