-- Chunks in flight over the list of streams: how many are in each, which numbers are taken, and a
-- flush of one stream's chunk as one of the shard's.
use Rattle.std.proofs.Common.{◌≡◌, ℕ, zero, suc, ◌+◌, ◌<◌, ◌≤◌, Bool, true, false, cond, ◌==◌, ◌&&◌, List, [], ◌∷◌, ◌++◌, length, filter, is_some, Option, Some, None, refl, ap, sym, ◌∙◌, arith, IsPermutation, slice_get}
use Rattle.std.proofs.lemmas.List.Sums.{sum_by-cons}
use Rattle.std.proofs.lemmas.Bool.{eqb-true, eqb-false, eq-eqb, ne_eqb, true≢false}
use Rattle.std.proofs.lemmas.List.Elements.{All-append, All-cons, All-contains, All-head, All-nil, All-weaker}
use Rattle.std.proofs.lemmas.List.Sorted.{All-permutation, IsPermutation-middle, IsPermutation-sym}
use Rattle.slab.specs.Slab.{Slab, Updates, get}
use Rattle.ing_rows.specs.declared.place.Place.{Place}
use Rattle.ing_rows.specs.declared.place.Place.TheVariants.{Head, Block, Flight, Stored}
use Rattle.ing_rows.specs.Rows.{StreamKey, Row, Mark, IsSame, is_flight, is_of_chunk, same_stream}
use Rattle.ing_rows.specs.Flushes.{FlushesAreApart, FlushesHaveNoOrder, NoneFlies, NoneMarks, NoneOfChunk, NoneOlder}
use Rattle.ing_rows.specs.Steps.{Claims, ClaimsNone, Finishes, GivesBack, IsClaimable, is_mark_of}
use Rattle.ing_rows.specs.Turns.{beside}
use Rattle.ing_chunk.specs.declared.numbered.Numbered.{Numbered}
use Rattle.ing_chunk.specs.Chunks.{ChunkContents, row_in, stream_state}
use Rattle.ing_checkpoint.specs.Slots.{Slot, slot_at, slots_state, NoneInFlight}
use Rattle.ing_checkpoint.specs.Contents.{flight_at, flights_of}
use Rattle.ing_checkpoint.proofs.StreamRows.{memory_all, slots_all}
use Rattle.ing_shard.specs.OneStream.{Stream}
use Rattle.ing_shard.specs.Flights.{AreApart, flights_in, flights_among}
use Rattle.ing_shard.specs.Streams.{key_of, part_of, whole, AreDistinct}
use Rattle.ing_shard.proofs.Alike.{same_sym, same_trans, beside_left}
use Rattle.ing_shard.proofs.CountLaws.{reordered, same_self, sum_split}
use Rattle.ing_shard.proofs.PositionLaws.{same_flip}
use Rattle.ing_shard.proofs.WholeLaws.{IsOther, AreOthers, others_rows, others_marks, whole_front}

-- ---- how many chunks are in a flight

chosen_more : (b : Bool) (g : ℕ) (gs : List ℕ) → length (cond b (g ∷ gs) gs) ≡ length gs + cond b 1 0
chosen_more true g gs = omega arith
chosen_more false g gs = omega arith

-- a list in another order with one number more: only that number is there once more
pub one_in_flight : (f g : ℕ) (xs ys : List ℕ) → IsPermutation xs (g ∷ ys)
    → length (filter (λ h. h == f) xs) ≡ length (filter (λ h. h == f) ys) + cond (g == f) 1 0
one_in_flight f g xs ys h =
    reordered (λ k. k == f) xs (g ∷ ys) h ∙ chosen_more (g == f) g (filter (λ k. k == f) ys)

-- a chunk is counted where it is in the flight
counted_at : (f : ℕ) (place : Place) (gs : List ℕ) → length (filter (λ g. g == f) (flight_at place ++ gs))
    ≡ length (filter (λ g. g == f) gs) + cond (is_flight f place) 1 0
counted_at f Head gs = omega arith
counted_at f Block gs = omega arith
counted_at f (Flight g) gs = chosen_more (g == f) g (filter (λ k. k == f) gs) ∙ flipped (g == f) refl where
  flipped : (b : Bool) → (g == f) ≡ b
      → length (filter (λ k. k == f) gs) + cond b 1 0 ≡ length (filter (λ k. k == f) gs) + cond (f == g) 1 0
  flipped true is = ap (λ c. length (filter (λ k. k == f) gs) + cond c 1 0) (sym (eq-eqb f g (sym (eqb-true g f is))))
  flipped false is =
      ap (λ c. length (filter (λ k. k == f) gs) + cond c 1 0) (sym (ne_eqb f g (λ same. eqb-false g f is (sym same))))
counted_at f (Stored key) gs = omega arith

counted_slot : (f : ℕ) (x : Slot) (xs : List Slot) → length (filter (λ g. g == f) (flights_of (x ∷ xs)))
    ≡ length (filter (λ g. g == f) (flights_of xs)) + cond (is_flight f x.place) 1 0
counted_slot f x xs = counted_at f x.place (flights_of xs)

-- it is not in it, where the others are as many as there may be
not_counted : (b : Bool) (n most : ℕ) → n + cond b 1 0 ≤ most → most ≤ n → (b ≡ false) × (n ≤ most)
not_counted true n most few all = absurd (omega (arith, few, all))
not_counted false n most few all = (refl, omega (arith, few))

pub free_among : (f : ℕ) (xs : List Slot) → length (filter (λ g. g == f) (flights_of xs)) ≡ 0
    → NoneInFlight f xs
free_among f [] h = All-nil (λ (x : Slot). is_flight f x.place ≡ false)
free_among f (x ∷ xs) h =
    let rest = length (filter (λ g. g == f) (flights_of xs)) in
    let both = not_counted (is_flight f x.place) rest 0 (omega (arith, h, counted_slot f x xs)) (omega arith) in
    let none = both.1 in
    All-cons (λ (y : Slot). is_flight f y.place ≡ false) x xs both.0 (free_among f xs (omega (arith, none)))

-- where no chunk of a stream is counted in a flight, none is in it
pub free_slots : (f : ℕ) (st : Stream) → flights_in f st ≡ 0 → NoneInFlight f st.chunks.sealed
free_slots f st h = free_among f st.chunks.sealed h

flies_among : (f i : ℕ) (chunk : ChunkContents) (xs : List Slot)
    → slice_get xs i ≡ Some (slot_at (Flight f) chunk)
    → 0 < length (filter (λ g. g == f) (flights_of xs))
flies_among f i chunk [] is = absurd (cc)
flies_among f zero chunk (x ∷ xs) is =
    let here : x ≡ slot_at (Flight f) chunk = search (is) in
    let one = ap {B = ℕ} (λ b. cond b 1 0) (ap (λ (y : Slot). is_flight f y.place) here ∙ eq-eqb f f refl) in
    omega (arith, counted_slot f x xs, one)
flies_among f (suc i) chunk (x ∷ xs) is =
    let later = flies_among f i chunk xs is in
    omega (arith, counted_slot f x xs, later)

-- a chunk of a stream that is in a flight is counted in it
pub flies_here : (f i : ℕ) (chunk : ChunkContents) (st : Stream)
    → slice_get st.chunks.sealed i ≡ Some (slot_at (Flight f) chunk) → 0 < flights_in f st
flies_here f i chunk st is = flies_among f i chunk st.chunks.sealed is

-- the chunk of a flight is the only one in it
pub first_alone : (f : ℕ) (x : Slot) (xs : List Slot) → is_flight f x.place ≡ true
    → length (filter (λ g. g == f) (flights_of (x ∷ xs))) ≤ 1 → length (filter (λ g. g == f) (flights_of xs)) ≡ 0
first_alone f x xs flies most =
    let one = ap {B = ℕ} (λ b. cond b 1 0) flies in
    omega (arith, counted_slot f x xs, one, most)

-- and one before it is in another
pub first_other : (f : ℕ) (x : Slot) (xs : List Slot) (i : ℕ) (chunk : ChunkContents)
    → length (filter (λ g. g == f) (flights_of (x ∷ xs))) ≤ 1 → slice_get xs i ≡ Some (slot_at (Flight f) chunk)
    → (is_flight f x.place ≡ false) × (length (filter (λ g. g == f) (flights_of xs)) ≤ 1)
first_other f x xs i chunk most is =
    let later = flies_among f i chunk xs is in
    not_counted (is_flight f x.place) (length (filter (λ g. g == f) (flights_of xs))) 1
    (omega (arith, most, counted_slot f x xs)) (omega (arith, later))

-- no row of a chunk that grows or was never claimed is in a flight
pub free_memory : (f : ℕ) (st : Stream) → NoneFlies f (stream_state (key_of st) st.chunks.memory)
free_memory f st =
    memory_all (key_of st) (λ r. is_flight f r.place ≡ false) st.chunks.memory (λ c. (λ b e. refl, λ b e. refl))

-- and no row is in a flight in which none of its stream's chunks is
pub free_part : (f : ℕ) (st : Stream) → flights_in f st ≡ 0 → NoneFlies f (part_of st)
free_part f st h =
    let s = key_of st in
    let Grounded : Row → Type 0 = λ r. is_flight f r.place ≡ false in
    All-append Grounded (stream_state s st.chunks.memory).rows (slots_state s st.chunks.sealed).rows
    (free_memory f st)
    (slots_all s Grounded st.chunks.sealed
    (All-weaker (λ (x : Slot). is_flight f x.place ≡ false)
    (λ (x : Slot). (block : ℕ) (e : Numbered) → Grounded (row_in s x.first block x.place e))
    (λ x grounded b e. grounded) st.chunks.sealed (free_slots f st h)))

-- where no chunk of any stream is counted in a flight, no row is in it
pub free_rows : (f : ℕ) (sts : List Stream) → flights_among f sts ≡ 0 → NoneFlies f (whole sts)
free_rows f [] h = All-nil (λ (r : Row). is_flight f r.place ≡ false)
free_rows f (st ∷ sts) h =
    let sum = sum_by-cons (flights_in f) st sts in
    All-append (λ (r : Row). is_flight f r.place ≡ false) (part_of st).rows (whole sts).rows
    (free_part f st (omega (arith, h, sum)))
    (free_rows f sts (omega (arith, h, sum)))

-- ---- which numbers of flights are taken

-- a number that is not taken has no chunk
untaken : {T : Type 0} (n : ℕ) (o : Option T) → o ≡ None → n ≡ cond (is_some o) 1 0 → n ≡ 0
untaken n None is h = omega (arith, h)
untaken n (Some x) is h = absurd (cc)

pub free_number : {T : Type 0} (f : ℕ) (taken : Slab T) (sts : List Stream)
    → AreApart taken sts → get taken f ≡ None → flights_among f sts ≡ 0
free_number f taken sts apart free = untaken (flights_among f sts) (get taken f) free (apart f)

-- one stream has changed: so have the chunks in a flight, by as many as its own
flights_changed : (f : ℕ) (front : List Stream) (st now : Stream) (back : List Stream)
    → flights_among f (front ++ now ∷ back) + flights_in f st
    ≡ flights_among f (front ++ st ∷ back) + flights_in f now
flights_changed f front st now back =
    let before = sum_split (flights_in f) front st back in
    let after = sum_split (flights_in f) front now back in
    omega (arith, before, after)

-- the same numbers are taken, and its chunks are in the same flights
pub apart_same : {T : Type 0} (old new : Slab T) (front : List Stream) (st now : Stream) (back : List Stream)
    → AreApart old (front ++ st ∷ back) → flights_of now.chunks.sealed ≡ flights_of st.chunks.sealed
    → ((f : ℕ) → get new f ≡ get old f) → AreApart new (front ++ now ∷ back)
apart_same old new front st now back apart same kept f =
    let here = ap (λ gs. length (filter (λ g. g == f) gs)) same in
    let all = flights_changed f front st now back in
    let most = apart f in
    let is = ap {B = ℕ} (λ o. cond (is_some o) 1 0) (kept f) in
    omega (arith, here, all, most, is)

-- a free number is taken for one more of its chunks
claimed_case : (b : Bool) (was now all next old new : ℕ) → now ≡ was + cond b 1 0 → next + was ≡ all + now → all ≡ old
    → (b ≡ true → (old ≡ 0) × (new ≡ 1)) → (b ≡ false → new ≡ old) → next ≡ new
claimed_case true was now all next old new more sum is taken same =
    let mine = taken refl in
    let none = mine.0 in
    let one = mine.1 in
    omega (arith, more, sum, is, none, one)
claimed_case false was now all next old new more sum is taken same =
    let kept = same refl in
    omega (arith, more, sum, is, kept)

pub apart_claimed : {T : Type 0} (old new : Slab T) (f : ℕ) (x : T)
    (front : List Stream) (st now : Stream) (back : List Stream)
    → AreApart old (front ++ st ∷ back) → get old f ≡ None → Updates old new f (Some x)
    → IsPermutation (flights_of now.chunks.sealed) (f ∷ flights_of st.chunks.sealed)
    → AreApart new (front ++ now ∷ back)
apart_claimed {T} old new f x front st now back apart free taken flies g =
    let one : Option T → ℕ = λ o. cond (is_some o) 1 0 in
    claimed_case (f == g) (flights_in g st) (flights_in g now) (flights_among g (front ++ st ∷ back))
    (flights_among g (front ++ now ∷ back)) (one (get old g)) (one (get new g))
    (one_in_flight g f (flights_of now.chunks.sealed) (flights_of st.chunks.sealed) flies)
    (flights_changed g front st now back) (apart g)
    (λ is. let same = sym (eqb-true f g is) in
    (ap one (ap (get old) same ∙ free), ap one (ap (get new) same ∙ taken.changed)))
    (λ is. ap one (taken.others g (λ same. eqb-false f g is (sym same))))

-- a number is free again: the chunk that it was taken for has landed
landed_case : (b old : Bool) (was now all next new : ℕ) → was ≡ now + cond b 1 0 → next + was ≡ all + now
    → all ≡ cond old 1 0 → (b ≡ true → new ≡ 0) → (b ≡ false → new ≡ cond old 1 0) → next ≡ new
landed_case true true was now all next new fewer sum is freed same = let none = freed refl in omega (arith, fewer, sum, is, none)
landed_case true false was now all next new fewer sum is freed same = let none = freed refl in omega (arith, fewer, sum, is, none)
landed_case false old was now all next new fewer sum is freed same = let kept = same refl in omega (arith, fewer, sum, is, kept)

pub apart_landed : {T : Type 0} (old new : Slab T) (f : ℕ)
    (front : List Stream) (st now : Stream) (back : List Stream)
    → AreApart old (front ++ st ∷ back) → Updates old new f None
    → IsPermutation (f ∷ flights_of now.chunks.sealed) (flights_of st.chunks.sealed)
    → AreApart new (front ++ now ∷ back)
apart_landed {T} old new f front st now back apart freed lands g =
    let one : Option T → ℕ = λ o. cond (is_some o) 1 0 in
    landed_case (f == g) (is_some (get old g)) (flights_in g st) (flights_in g now) (flights_among g (front ++ st ∷ back))
    (flights_among g (front ++ now ∷ back)) (one (get new g))
    (one_in_flight g f (flights_of st.chunks.sealed) (flights_of now.chunks.sealed)
    (IsPermutation-sym (f ∷ flights_of now.chunks.sealed) (flights_of st.chunks.sealed) lands))
    (flights_changed g front st now back) (apart g)
    (λ is. ap one (ap (get new) (sym (eqb-true f g is)) ∙ freed.changed))
    (λ is. ap one (freed.others g (λ same. eqb-false f g is (sym same))))

-- ---- what is done in one stream is done in the shard

-- the stream in front of the others is the shard
from_front : (front : List Stream) (st : Stream) (back : List Stream)
    → IsSame (beside (part_of st) (whole (front ++ back))) (whole (front ++ st ∷ back))
from_front front st back =
    same_sym (whole (front ++ st ∷ back)) (beside (part_of st) (whole (front ++ back)))
    (whole_front front st back)

-- a stream that stays the same leaves the shard the same
pub same_whole : (front : List Stream) (st now : Stream) (back : List Stream)
    → IsSame (part_of now) (part_of st)
    → IsSame (whole (front ++ now ∷ back)) (whole (front ++ st ∷ back))
same_whole front st now back same =
    let rest = whole (front ++ back) in
    let new = whole (front ++ now ∷ back) in
    same_trans new (beside (part_of now) rest) (whole (front ++ st ∷ back))
    (whole_front front now back)
    (same_trans (beside (part_of now) rest) (beside (part_of st) rest) (whole (front ++ st ∷ back))
    (beside_left (part_of now) (part_of st) rest same) (from_front front st back))

-- the others around a stream are others
pub others_around : (front : List Stream) (st : Stream) (back : List Stream)
    → AreDistinct (front ++ st ∷ back) → AreOthers (key_of st) (front ++ back)
others_around [] st back distinct = distinct.0
others_around (g ∷ front) st back distinct =
    let there : IsOther (key_of g) st =
    All-head (IsOther (key_of g)) st (front ++ back)
    (All-permutation (IsOther (key_of g)) (front ++ st ∷ back) (st ∷ (front ++ back))
    (IsPermutation-middle front st back) distinct.0) in
    All-cons (IsOther (key_of st)) g (front ++ back) (same_flip (key_of st) (key_of g) there)
    (others_around front st back distinct.1)

-- they have no row and no mark of its chunks, and none to claim
module _ (s : StreamKey) (sts : List Stream) (others : AreOthers s sts) where
  no_rows : (chunk : ℕ) → NoneOfChunk s chunk (whole sts)
  no_rows chunk =
      All-weaker (λ (r : Row). same_stream r.stream s ≡ false)
      (λ (r : Row). is_of_chunk s chunk r ≡ false)
      (λ r other. ap (λ b. b && (r.chunk == chunk)) other) (whole sts).rows
      (others_rows s sts others)

  no_marks : (chunk : ℕ) → NoneMarks s chunk (whole sts)
  no_marks chunk =
      All-weaker (λ (m : Mark). same_stream m.stream s ≡ false)
      (λ (m : Mark). is_mark_of s chunk m ≡ false)
      (λ m other. ap (λ b. b && (m.chunk == chunk)) other) (whole sts).marks
      (others_marks s sts others)

  none_claimable : (chunk : ℕ) → IsClaimable (whole sts) s chunk → ⊥
  none_claimable chunk h =
      let m = h.0.0 in
      let other =
      All-contains (λ (k : Mark). same_stream k.stream s ≡ false) (whole sts).marks m
      (others_marks s sts others) h.0.1 in
      true≢false (sym (same_self s) ∙ ap (λ k. same_stream k s) (sym h.0.2) ∙ other)

-- and no row in the flight, where all that are in it are the stream's
free_others : (f : ℕ) (front : List Stream) (st : Stream) (back : List Stream)
    → flights_among f (front ++ st ∷ back) ≤ flights_in f st → NoneFlies f (whole (front ++ back))
free_others f front st back most =
    let sum = sum_split (flights_in f) front st back in
    free_rows f (front ++ back) (omega (arith, most, sum))

module _ (apart : FlushesAreApart) (order : FlushesHaveNoOrder) where
  -- a claim under a number that no chunk has
  pub claims_whole : (f chunk : ℕ) (front : List Stream) (st now : Stream) (back : List Stream)
      → AreDistinct (front ++ st ∷ back) → flights_among f (front ++ st ∷ back) ≡ 0
      → Claims (key_of st) chunk f (part_of st) (part_of now)
      → Claims (key_of st) chunk f (whole (front ++ st ∷ back)) (whole (front ++ now ∷ back))
  claims_whole f chunk front st now back distinct free h =
      let s = key_of st in
      let rest = whole (front ++ back) in
      let others = others_around front st back distinct in
      let older : NoneOlder s chunk rest =
      λ other k. absurd (none_claimable s (front ++ back) others other k) in
      let both = apart.claims s chunk f (part_of st) (part_of now) rest h
      (no_rows s (front ++ back) others chunk) (free_others f front st back (omega (arith, free)))
      older in
      order.claims s chunk f (beside (part_of st) rest) (beside (part_of now) rest)
      (whole (front ++ st ∷ back)) (whole (front ++ now ∷ back))
      (from_front front st back) (from_front front now back) both.0

  -- there is no chunk of the stream to claim
  pub none_whole : (front : List Stream) (st now : Stream) (back : List Stream)
      → AreDistinct (front ++ st ∷ back) → ClaimsNone (key_of st) (part_of st) (part_of now)
      → ClaimsNone (key_of st) (whole (front ++ st ∷ back)) (whole (front ++ now ∷ back))
  none_whole front st now back distinct h =
      let s = key_of st in
      let rest = whole (front ++ back) in
      let others = others_around front st back distinct in
      let both = apart.none s (part_of st) (part_of now) rest h
      (none_claimable s (front ++ back) others) in
      order.none s (beside (part_of st) rest) (beside (part_of now) rest)
      (whole (front ++ st ∷ back)) (whole (front ++ now ∷ back))
      (from_front front st back) (from_front front now back) both.0

  -- the one chunk in the flight is given back
  pub backs_whole : (f : ℕ) (front : List Stream) (st now : Stream) (back : List Stream)
      → flights_among f (front ++ st ∷ back) ≤ 1 → 0 < flights_in f st
      → GivesBack f (part_of st) (part_of now)
      → GivesBack f (whole (front ++ st ∷ back)) (whole (front ++ now ∷ back))
  backs_whole f front st now back most some h =
      let rest = whole (front ++ back) in
      let both = apart.backs f (part_of st) (part_of now) rest h
      (free_others f front st back (omega (arith, most, some))) in
      order.backs f (beside (part_of st) rest) (beside (part_of now) rest)
      (whole (front ++ st ∷ back)) (whole (front ++ now ∷ back))
      (from_front front st back) (from_front front now back) both.0

  -- the one chunk in the flight is stored
  pub finishes_whole : (f chunk : ℕ) (key : List ℕ)
      (front : List Stream) (st now : Stream) (back : List Stream)
      → AreDistinct (front ++ st ∷ back) → flights_among f (front ++ st ∷ back) ≤ 1
      → 0 < flights_in f st
      → Finishes (key_of st) chunk f key (part_of st) (part_of now)
      → Finishes (key_of st) chunk f key (whole (front ++ st ∷ back)) (whole (front ++ now ∷ back))
  finishes_whole f chunk key front st now back distinct most some h =
      let s = key_of st in
      let rest = whole (front ++ back) in
      let others = others_around front st back distinct in
      let both = apart.finishes s chunk f key (part_of st) (part_of now) rest h
      (no_rows s (front ++ back) others chunk)
      (free_others f front st back (omega (arith, most, some)))
      (no_marks s (front ++ back) others chunk) in
      order.finishes s chunk f key (beside (part_of st) rest) (beside (part_of now) rest)
      (whole (front ++ st ∷ back)) (whole (front ++ now ∷ back))
      (from_front front st back) (from_front front now back) both.0
