-- What is in flight stays in flight where one stream changes and where one more is listed; a free number is no chunk's.
use Rattle.std.proofs.Common.{◌≡◌, ◌≢◌, ℕ, zero, suc, ◌<◌, List, [], ◌∷◌, ◌++◌, map, Ok, Err, Result, Some, refl, ap, ◌∙◌, subst, arith, OnErr, OnOk, slice_get}
use Rattle.ing_shard.proofs.CountLaws.{map_same}
use Rattle.std.proofs.lemmas.List.Sums.{sum_by-cons}
use Rattle.std.proofs.lemmas.Option.{same_Some}
use Rattle.ing_rows.specs.declared.place.Place.TheVariants.{Flight}
use Rattle.ing_rows.specs.Rows.{StreamKey}
use Rattle.ing_chunk.specs.Chunks.{ChunkContents}
use Rattle.ing_checkpoint.specs.Slots.{Slot, slot_at}
use Rattle.ing_checkpoint.specs.Contents.{OthersStayInFlight, StayInFlight}
use Rattle.ing_shard.specs.OneStream.{Stream}
use Rattle.ing_shard.specs.Flights.{Flown, flights_among, flights_in, key_in}
use Rattle.ing_shard.specs.Streams.{FliesAmong, OthersStayAmong, StayAmong, key_of, slots_of}
use Rattle.ing_shard.proofs.FlightLaws.{flies_here}

-- ---- the same chunks, and one more stream

pub stay_same : (olds news : List Stream) → map key_of news ≡ map key_of olds → map slots_of news ≡ map slots_of olds → StayAmong olds news
stay_same olds news keys sealed f (n, i, at) = (
  n,
  i,
  record {
    stream = ap (λ l. slice_get l n) keys ∙ at.stream;
    slots = at.slots;
    listed = ap (λ l. slice_get l n) sealed ∙ at.listed;
    stands = at.stands;
  },
)

read_front : {X : Type 0} (xs ys : List X) (i : ℕ) (y : X) → slice_get xs i ≡ Some y → slice_get (xs ++ ys) i ≡ Some y
read_front [] ys i y is = absurd (cc)
read_front (x ∷ xs) ys zero y is = is
read_front (x ∷ xs) ys (suc i) y is = read_front xs ys i y is

pub stay_more : (olds news : List Stream) (s : StreamKey) → map key_of news ≡ map key_of olds ++ s ∷ []
    → map slots_of news ≡ map slots_of olds ++ [] ∷ [] → StayAmong olds news
stay_more olds news s keys sealed f (n, i, at) = (
  n,
  i,
  record {
    stream = ap (λ l. slice_get l n) keys ∙ read_front (map key_of olds) (s ∷ []) n (key_in f) at.stream;
    slots = at.slots;
    listed = ap (λ l. slice_get l n) sealed ∙ read_front (map slots_of olds) ([] ∷ []) n at.slots at.listed;
    stands = at.stands;
  },
)

-- where one is listed, or nothing is
pub stay_begun : {T E : Type 0} (r : Result T E) (olds news : List Stream) (s : StreamKey)
    → OnOk r (map key_of news ≡ map key_of olds ++ s ∷ []) → OnOk r (map slots_of news ≡ map slots_of olds ++ [] ∷ [])
    → OnErr r (news ≡ olds) → StayAmong olds news
stay_begun (Ok x) olds news s keys sealed err = stay_more olds news s keys sealed
stay_begun (Err e) olds news s keys sealed err = stay_same olds news (ap (map key_of) err) (ap (map slots_of) err)

-- ---- one stream changes

-- what has become of the sealed chunks of a stream
record Read (Q : List Slot → List Slot → Type 0) (xs : List Slot) (n : ℕ) (sts : List Stream) : Type 0 where
  slots : List Slot
  listed : slice_get (map slots_of sts) n ≡ Some slots
  stay : Q xs slots

read_changed : (Q : List Slot → List Slot → Type 0) → ((xs : List Slot) → Q xs xs)
    → (front : List Stream) (st now : Stream) (back : List Stream) (n : ℕ) (xs : List Slot)
    → Q st.chunks.sealed now.chunks.sealed → slice_get (map slots_of (front ++ st ∷ back)) n ≡ Some xs
    → Read Q xs n (front ++ now ∷ back)
read_changed Q same [] st now back zero xs stay is =
    record {
      slots = slots_of now;
      listed = refl;
      stay = subst (λ l. Q l (slots_of now)) (same_Some (slots_of st) xs is) stay;
    }
read_changed Q same [] st now back (suc n) xs stay is = record { slots = xs; listed = is; stay = same xs }
read_changed Q same (o ∷ front) st now back zero xs stay is = record { slots = xs; listed = is; stay = same xs }
read_changed Q same (o ∷ front) st now back (suc n) xs stay is =
    let read = read_changed Q same front st now back n xs stay is in
    record { slots = read.slots; listed = read.listed; stay = read.stay }

-- a claimed chunk of one of them is where it was, or where it is now
at_changed : (Q : List Slot → List Slot → Type 0) → ((xs : List Slot) → Q xs xs) → (front : List Stream) (st now : Stream) (back : List Stream) → key_of now ≡ key_of st
    → Q st.chunks.sealed now.chunks.sealed → (f : Flown) → ((xs ys : List Slot) (i : ℕ) → Q xs ys → slice_get xs i ≡ Some (slot_at (Flight f.flight) f.chunk) → slice_get ys i ≡ Some (slot_at (Flight f.flight) f.chunk))
    → FliesAmong f (front ++ st ∷ back) → FliesAmong f (front ++ now ∷ back)
at_changed Q same front st now back key stay f go (n, i, at) =
    let read = read_changed Q same front st now back n at.slots stay at.listed in (
      n,
      i,
      record {
        stream = ap (λ l. slice_get l n) (map_same key_of front st now back key) ∙ at.stream;
        slots = read.slots;
        listed = read.listed;
        stands = go at.slots read.slots i read.stay at.stands;
      },
    )

pub stay_changed : (front : List Stream) (st now : Stream) (back : List Stream) → key_of now ≡ key_of st
    → StayInFlight st.chunks.sealed now.chunks.sealed → StayAmong (front ++ st ∷ back) (front ++ now ∷ back)
stay_changed front st now back key stay f at =
    at_changed StayInFlight (λ xs i g chunk is. is) front st now back key stay f (λ xs ys i go. go i f.flight f.chunk) at

pub others_changed : (flight : ℕ) (front : List Stream) (st now : Stream) (back : List Stream) → key_of now ≡ key_of st
    → OthersStayInFlight flight st.chunks.sealed now.chunks.sealed
    → OthersStayAmong flight (front ++ st ∷ back) (front ++ now ∷ back)
others_changed flight front st now back key stay f other at =
    at_changed (OthersStayInFlight flight) (λ xs i g chunk away is. is) front st now back key stay f
    (λ xs ys i go. go i f.flight f.chunk other) at

-- ---- numbers of flights

pub counted_among : (f i : ℕ) (chunk : ChunkContents) (xs : List Slot) → slice_get xs i ≡ Some (slot_at (Flight f) chunk)
    → (sts : List Stream) (n : ℕ) → slice_get (map slots_of sts) n ≡ Some xs → 0 < flights_among f sts
counted_among f i chunk xs stands [] n is = absurd (cc)
counted_among f i chunk xs stands (st ∷ sts) zero is =
    let here = flies_here f i chunk st (ap (λ l. slice_get l i) (same_Some (slots_of st) xs is) ∙ stands) in
    let sum = sum_by-cons (flights_in f) st sts in
    omega (arith, here, sum)
counted_among f i chunk xs stands (st ∷ sts) (suc n) is =
    let later = counted_among f i chunk xs stands sts n is in
    let sum = sum_by-cons (flights_in f) st sts in
    omega (arith, later, sum)

-- no chunk in flight has a number that is free
pub other_number : (flight : ℕ) (sts : List Stream) → flights_among flight sts ≡ 0
    → (f : Flown) → FliesAmong f sts → f.flight ≢ flight
other_number flight sts none f (n, i, at) same =
    let some = subst (λ k. 0 < flights_among k sts) same (counted_among f.flight i f.chunk at.slots at.stands sts n at.listed) in
    omega (arith, none, some)
