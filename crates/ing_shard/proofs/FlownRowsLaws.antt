-- The rows in a flight are those of its chunk.
use Rattle.std.proofs.Common.{◌≡◌, ℕ, zero, suc, ◌≤◌, Bool, true, false, cond, ◌==◌, List, [], ◌∷◌, ◌++◌, length, filter, map, Some, refl, ap, sym, ◌∙◌, subst, arith, append-nil, IsPermutation, slice_get, eq-eqb}
use Rattle.ing_shard.proofs.Parts.{all_of_all}
use Rattle.ing_shard.proofs.CountLaws.{filter_const, filter_eq}
use Rattle.std.proofs.lemmas.List.Sums.{sum_by-cons}
use Rattle.std.proofs.lemmas.List.Elements.{All-head, All-tail, filter-append, All-map}
use Rattle.std.proofs.lemmas.List.Sorted.{IsPermutation-refl}
use Rattle.std.proofs.lemmas.Option.{same_Some}
use Rattle.slab.specs.Slab.{Slab}
use Rattle.ing_rows.specs.declared.place.Place.{Place}
use Rattle.ing_rows.specs.declared.place.Place.TheVariants.{Flight}
use Rattle.ing_rows.specs.Rows.{StreamKey, Row, is_flight}
use Rattle.ing_chunk.specs.Chunks.{ChunkContents, block_rows, stream_state}
use Rattle.ing_checkpoint.specs.Slots.{NoneInFlight, Slot, at_place, slot_at, slot_rows, slots_state}
use Rattle.ing_checkpoint.specs.Contents.{flights_of}
use Rattle.ing_shard.specs.OneStream.{Stream}
use Rattle.ing_shard.specs.Flights.{AreApart, FliesAs, Flown, flights_among, flights_in, key_in}
use Rattle.ing_shard.specs.Streams.{FliesAmong, key_of, part_of, slots_of, whole}
use Rattle.ing_shard.proofs.FlightLaws.{flies_here, free_among, free_memory, free_part, free_rows, first_alone, first_other}
use Rattle.ing_shard.proofs.FlushLaws.{one_flight}
use Rattle.ing_shard.proofs.SealLaws.{none_pass}
use Rattle.ing_shard.proofs.StayLaws.{counted_among}

abbrev in_flight : ℕ → Row → Bool
in_flight f r = is_flight f r.place

-- ---- one sealed chunk

placed : (f : ℕ) (place : Place) (rows : List Row) → filter (in_flight f) (map (at_place place) rows) ≡ cond (is_flight f place) (map (at_place place) rows) []
placed f place rows =
    filter_eq (in_flight f) (λ r. is_flight f place) (map (at_place place) rows)
    (All-map (λ r. in_flight f r ≡ is_flight f place) (at_place place) rows (all_of_all (λ r. in_flight f (at_place place r) ≡ is_flight f place) (λ r. refl) rows))
    ∙ filter_const (is_flight f place) (map (at_place place) rows)

module _ (s : StreamKey) (f : ℕ) where
  slot_none : (x : Slot) → is_flight f x.place ≡ false → filter (in_flight f) (slot_rows s x) ≡ []
  slot_none x flies = placed f x.place (block_rows s x.first 0 x.blocks) ∙ ap (λ b. cond b (slot_rows s x) []) flies

  slots_none : (xs : List Slot) → NoneInFlight f xs → filter (in_flight f) (slots_state s xs).rows ≡ []
  slots_none [] none = refl
  slots_none (x ∷ xs) none =
      filter-append (in_flight f) (slot_rows s x) (slots_state s xs).rows
      ∙ (λ i. slot_none x (All-head (λ (y : Slot). is_flight f y.place ≡ false) x xs none) i
      ++ slots_none xs (All-tail (λ (y : Slot). is_flight f y.place ≡ false) x xs none) i)

  -- of sealed chunks of which one is in the flight
  slots_flown : (chunk : ChunkContents) (xs : List Slot) (i : ℕ) → length (filter (λ g. g == f) (flights_of xs)) ≤ 1
      → slice_get xs i ≡ Some (slot_at (Flight f) chunk)
      → filter (in_flight f) (slots_state s xs).rows ≡ slot_rows s (slot_at (Flight f) chunk)
  slots_flown chunk [] i most is = absurd (cc)
  slots_flown chunk (x ∷ xs) zero most is =
      let here : x ≡ slot_at (Flight f) chunk = same_Some x (slot_at (Flight f) chunk) is in
      let flies : is_flight f x.place ≡ true = ap (λ (y : Slot). is_flight f y.place) here ∙ eq-eqb f f refl in
      filter-append (in_flight f) (slot_rows s x) (slots_state s xs).rows
      ∙ (λ i. (placed f x.place (block_rows s x.first 0 x.blocks) ∙ ap (λ b. cond b (slot_rows s x) []) flies) i ++ slots_none xs (free_among f xs (first_alone f x xs flies most)) i)
      ∙ append-nil (slot_rows s x) ∙ ap (slot_rows s) here
  slots_flown chunk (x ∷ xs) (suc i) most is =
      let off = first_other f x xs i chunk most is in
      filter-append (in_flight f) (slot_rows s x) (slots_state s xs).rows
      ∙ (λ j. slot_none x off.0 j ++ slots_flown chunk xs i off.1 is j)

-- ---- all streams

part_flown : (f i : ℕ) (chunk : ChunkContents) (st : Stream) → flights_in f st ≤ 1
    → slice_get st.chunks.sealed i ≡ Some (slot_at (Flight f) chunk)
    → filter (in_flight f) (part_of st).rows ≡ slot_rows (key_of st) (slot_at (Flight f) chunk)
part_flown f i chunk st most is =
    let memory = (stream_state (key_of st) st.chunks.memory).rows in
    filter-append (in_flight f) memory (slots_state (key_of st) st.chunks.sealed).rows
    ∙ (λ j. none_pass (in_flight f) memory (free_memory f st) j ++ slots_flown (key_of st) f chunk st.chunks.sealed i most is j)

rows_among : (f i : ℕ) (chunk : ChunkContents) (s : StreamKey) (xs : List Slot) → slice_get xs i ≡ Some (slot_at (Flight f) chunk)
    → (sts : List Stream) (n : ℕ) → flights_among f sts ≤ 1 → slice_get (map key_of sts) n ≡ Some s
    → slice_get (map slots_of sts) n ≡ Some xs
    → filter (in_flight f) (whole sts).rows ≡ slot_rows s (slot_at (Flight f) chunk)
rows_among f i chunk s xs stands [] n most named listed = absurd (cc)
rows_among f i chunk s xs stands (st ∷ sts) zero most named listed =
    let slots = ap (λ l. slice_get l i) (same_Some (slots_of st) xs listed) ∙ stands in
    let here = flies_here f i chunk st slots in
    let sum = sum_by-cons (flights_in f) st sts in
    let key : key_of st ≡ s = same_Some (key_of st) s named in
    filter-append (in_flight f) (part_of st).rows (whole sts).rows
    ∙ (λ j. part_flown f i chunk st (omega (arith, most, sum)) slots j
    ++ none_pass (in_flight f) (whole sts).rows (free_rows f sts (omega (arith, most, sum, here))) j)
    ∙ append-nil (slot_rows (key_of st) (slot_at (Flight f) chunk))
    ∙ ap (λ k. slot_rows k (slot_at (Flight f) chunk)) key
rows_among f i chunk s xs stands (st ∷ sts) (suc n) most named listed =
    let later = counted_among f i chunk xs stands sts n listed in
    let sum = sum_by-cons (flights_in f) st sts in
    filter-append (in_flight f) (part_of st).rows (whole sts).rows
    ∙ (λ j. none_pass (in_flight f) (part_of st).rows (free_part f st (omega (arith, most, sum, later))) j
    ++ rows_among f i chunk s xs stands sts n (omega (arith, most, sum)) named listed j)

-- a chunk that is in flight
pub flies_as : {T : Type 0} (taken : Slab T) (sts : List Stream) (f : Flown) → AreApart taken sts → FliesAmong f sts → FliesAs f (whole sts)
flies_as taken sts f apart (n, i, at) =
    let rows = slot_rows (key_in f) (slot_at (Flight f.flight) f.chunk) in
    subst (λ l. IsPermutation l rows)
    (sym (rows_among f.flight i f.chunk (key_in f) at.slots at.stands sts n (one_flight taken sts f.flight apart) at.stream at.listed))
    (IsPermutation-refl rows)
