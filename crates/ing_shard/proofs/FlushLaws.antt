-- A flush has changed where a chunk of one stream stands: what is kept beside the streams is set right.
use Rattle.std.proofs.Common.{◌≡◌, ℕ, ◌+◌, ◌^◌, ◌<◌, ◌≤◌, ◌&&◌, Bool, true, false, List, ◌∷◌, ◌++◌, cond, get_or, length, map, set, Some, ap, sym, ◌∙◌, subst, arith, bytes_eq, is_some, slice_get, sum_by, option_map, refl}
use Rattle.ing_shard.specs.declared.tenants.Tenants.{Tenants}
use Rattle.std.specs.Vec.{with_item}
use Rattle.slab.specs.Slab.{Slab, get}
use Rattle.std.proofs.Math.Seq.{get_or-append_seam}
use Rattle.std.proofs.lemmas.List.{length-append, length-map}
use Rattle.std.proofs.lemmas.Option.{same_Some, slice_get-get_or, slice_get-map, slice_get_within}
use Rattle.ing_rows.specs.Rows.{StreamKey, is_stored}
use Rattle.ing_rows.specs.Steps.{Claims}
use Rattle.ing_shard.specs.OneStream.{Stream}
use Rattle.ing_rows.specs.declared.place.Place.TheVariants.{Flight}
use Rattle.ing_checkpoint.specs.Slots.{slot_at}
use Rattle.ing_shard.specs.Flights.{AreApart, Flown, IsAt, flights_among, flights_in, key_in}
use Rattle.ing_shard.specs.declared.streams.Streams.{Streams}
use Rattle.ing_rows.specs.declared.gauges.Gauges.{Gauges}
use Rattle.ing_shard.specs.Streams.{key_of, slots_of, whole, AreHeld, CanSettle, FliesAt, Stays, measure_of}
use Rattle.ing_shard.specs.Tenants.{find_of, is_known, kept_of, posted_of}
use Rattle.ing_rows.specs.Gauges.{HaveRoom, AreWithin, with_changed}
use Rattle.ing_labels.specs.Canonical.{canonical_of}
use Rattle.ing_shard.proofs.ChangeLaws.{Around, all_entries, around, known_here, stays_fits, stays_here, within_here, written_in}
use Rattle.ing_shard.proofs.CountLaws.{filter_short, rows_total, stored_total, sum_split, map_same}
use Rattle.ing_shard.proofs.TakeLaws.{entries_small}

-- the same name
pub same_name : (st now : Stream) → Stays st now → key_of now ≡ key_of st
same_name st now stays = λ i. record { tenant = stays.tenant i; name = canonical_of (stays.labels i) }

module _ {R : Type 0} (old : Streams R) {i : ℕ} {st now : Stream} {m : Gauges} (held : AreHeld old) (split : Around old.list.items i st) (stays : Stays st now) (is : m ≡ measure_of st) where
  all_stored : ◌≡◌ {A = ℕ} old.stored ((measure_of st).stored.entries + sum_by (λ o. (measure_of o).stored.entries) (split.front ++ split.back))
  all_stored = held.stored ∙ ap (sum_by (λ o. (measure_of o).stored.entries)) split.is ∙ sum_split (λ o. (measure_of o).stored.entries) split.front st split.back

  few_stored : old.stored + (measure_of now).stored.entries < 2 ^ 64
  few_stored =
      let stored = held.stored ∙ sym (stored_total old.list.items) in
      let short = filter_short (λ r. is_stored r.place) (whole old.list.items).rows in
      let entries = rows_total old.list.items held.kept ∙ sym held.entries in
      let here = entries_small now (λ r. bytes_eq r.stream.tenant now.tenant && is_stored r.place) stays.kept in
      let next = stays.next in
      let total = all_entries old held split in
      let few = held.few in
      omega (arith, stored, short, entries, here, next, total, few)

  pub can_settle : CanSettle old.tenants old.stored now m
  can_settle =
      let all = all_stored in
      let same = ap (λ k. k.stored.entries) is in
      record {
        known = ap (is_known old.tenants) stays.tenant ∙ known_here old held split;
        before = subst (λ k. AreWithin k (kept_of old.tenants now.tenant)) (sym is)
            (subst (λ t. AreWithin (measure_of st) (kept_of old.tenants t)) (sym stays.tenant) (within_here old held split));
        after = subst (λ k. HaveRoom (with_changed (kept_of old.tenants now.tenant) k (measure_of now))) (sym is)
            (subst (λ t. HaveRoom (with_changed (kept_of old.tenants t) (measure_of st) (measure_of now))) (sym stays.tenant) (stays_fits old held split now stays));
        stored = omega (arith, all, same);
        few = few_stored;
      }

  pub settled : (tenants : Tenants) (stored : ℕ) (flights : Slab (Unit {0}))
      → ((t n : List ℕ) → find_of tenants t n ≡ find_of old.tenants t n)
      → ((t : List ℕ) → posted_of tenants t ≡ posted_of old.tenants t)
      → ((t : List ℕ) → is_known tenants t ≡ is_known old.tenants t)
      → ((t : List ℕ) → kept_of tenants t ≡ cond (bytes_eq now.tenant t) (with_changed (kept_of old.tenants now.tenant) m (measure_of now)) (kept_of old.tenants t))
      → stored + m.stored.entries ≡ old.stored + (measure_of now).stored.entries
      → AreApart flights (split.front ++ now ∷ split.back) → AreHeld (record old { list = with_item old.list i now; tenants = tenants; stored = stored; flights = flights })
  settled tenants stored flights find posted known sums total apart =
      stays_here old held split (record old { list = with_item old.list i now; tenants = tenants; stored = stored; flights = flights }) now (written_in split now) stays find posted known
      (λ t. sums t ∙ (λ j. cond (bytes_eq (stays.tenant j) t) (with_changed (kept_of old.tenants (stays.tenant j)) (is j) (measure_of now)) (kept_of old.tenants t)))
      refl (ap (λ k. stored + k.stored.entries) (sym is) ∙ total) refl apart

  pub settled_keys : map key_of (set old.list.items i now) ≡ map key_of old.list.items
  settled_keys = ap (map key_of) (written_in split now) ∙ map_same key_of split.front st now split.back (same_name st now stays) ∙ ap (map key_of) (sym split.is)

  -- what holds of the whole list where the stream stands apart
  pub settled_whole : (P : List Stream → List Stream → Type 0) → P (split.front ++ st ∷ split.back) (split.front ++ now ∷ split.back) → P old.list.items (set old.list.items i now)
  settled_whole P h = subst (λ l. P l (set old.list.items i now)) (sym split.is) (subst (P (split.front ++ st ∷ split.back)) (sym (written_in split now)) h)

-- ---- where a claimed chunk stands

-- the stream of a claimed chunk, which is in flight in it
pub record Standing (f : Flown) (index : ℕ) (sts : List Stream) (i : ℕ) (st : Stream) : Type 0 where
  pub split : Around sts i st
  pub stands : slice_get st.chunks.sealed index ≡ Some (slot_at (Flight f.flight) f.chunk)
  pub key : key_of st ≡ key_in f

pub at_below : (f : Flown) (index : ℕ) (sts : List Stream) (i : ℕ) → IsAt f i index (map key_of sts) (map slots_of sts) → i < length sts
at_below f index sts i at = subst (λ n. i < n) (length-map sts key_of) (slice_get_within (map key_of sts) i (key_in f) at.stream)

pub standing : (f : Flown) (index : ℕ) (sts : List Stream) (i : ℕ) (st : Stream) → IsAt f i index (map key_of sts) (map slots_of sts) → st ≡ get_or sts i st → Standing f index sts i st
standing f index sts i st at read =
    let below : i < length sts = at_below f index sts i at in
    let listed : slice_get sts i ≡ Some st = slice_get-get_or sts i st below ∙ ap Some (sym read) in
    let key : key_of st ≡ key_in f =
    same_Some (key_of st) (key_in f) (sym (ap (option_map key_of) listed) ∙ sym (slice_get-map key_of sts i) ∙ at.stream) in
    let slots : st.chunks.sealed ≡ at.slots =
    same_Some st.chunks.sealed at.slots (sym (ap (option_map slots_of) listed) ∙ sym (slice_get-map slots_of sts i) ∙ at.listed) in
    record {
      split = around sts i st below read;
      stands = ap (λ xs. slice_get xs index) slots ∙ at.stands;
      key = key;
    }

-- a number is that of one flight at most
at_most_one : (b : Bool) (n : ℕ) → n ≡ cond b 1 0 → n ≤ 1
at_most_one true n h = omega (arith, h)
at_most_one false n h = omega (arith, h)

pub one_flight : {T : Type 0} (taken : Slab T) (sts : List Stream) (f : ℕ) → AreApart taken sts → flights_among f sts ≤ 1
one_flight taken sts f apart = at_most_one (is_some (get taken f)) (flights_among f sts) (apart f)

-- a number that no chunk has is none of this stream's
pub free_here : (f : ℕ) (sts : List Stream) (i : ℕ) (st : Stream) → Around sts i st → flights_among f sts ≡ 0 → flights_in f st ≡ 0
free_here f sts i st split none =
    let sum = ap (flights_among f) split.is ∙ sum_split (flights_in f) split.front st split.back in
    omega (arith, none, sum)

-- the list around the stream that is read there
pub around_here : (sts : List Stream) (n i : ℕ) (st : Stream) → n ≡ length sts → i < n → st ≡ get_or sts i st → Around sts i st
around_here sts n i st long below read = around sts i st (subst (λ k. i < k) long below) read

-- the key under which it is listed
pub key_here : (sts : List Stream) (i : ℕ) (st : Stream) (s : StreamKey) → slice_get sts i ≡ Some st → slice_get (map key_of sts) i ≡ Some s → key_of st ≡ s
key_here sts i st s read listed = same_Some (key_of st) s (sym (ap (option_map key_of) read) ∙ sym (slice_get-map key_of sts i) ∙ listed)

-- a stream that has been written is listed there
pub now_here : (sts : List Stream) (i : ℕ) (st now : Stream) → Around sts i st → slice_get (set sts i now) i ≡ Some now
now_here sts i st now split =
    let written = written_in split now in
    let long = ap length written ∙ length-append split.front (now ∷ split.back) in
    let at = split.at in
    slice_get-get_or (set sts i now) i now (omega (arith, long, at))
    ∙ ap Some ((λ j. get_or (written j) (sym at j) now) ∙ get_or-append_seam split.front now split.back now)

-- a chunk that was put in flight is in flight there
pub flown_at : (f : Flown) (n index : ℕ) (olds news : List Stream) → FliesAt n f.flight index f.chunk olds news
    → (st : Stream) → slice_get olds n ≡ Some st → key_in f ≡ key_of st
    → IsAt f n index (map key_of news) (map slots_of news) × Claims (key_in f) f.chunk.first f.flight (whole olds) (whole news)
flown_at f n index olds news flies st read key =
    let same : key_in f ≡ key_of flies.st = key ∙ ap key_of (same_Some st flies.st (sym read ∙ flies.was)) in (
      record {
        stream = slice_get-map key_of news n ∙ ap (option_map key_of) flies.is ∙ ap Some (flies.key ∙ sym same);
        slots = flies.now.chunks.sealed;
        listed = slice_get-map slots_of news n ∙ ap (option_map slots_of) flies.is;
        stands = flies.stands;
      },
      subst (λ s. Claims s f.chunk.first f.flight (whole olds) (whole news)) (sym same) flies.claims,
    )
