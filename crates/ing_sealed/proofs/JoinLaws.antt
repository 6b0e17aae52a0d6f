-- Sealed chunks that wait in a stream are taken over behind those that are here.
use Rattle.std.proofs.Common.{◌≡◌, ◌≢◌, ℕ, ◌+◌, ◌<◌, ◌≤◌, Bool, true, false, not, cond, List, [], ◌∷◌, ◌++◌, length, map, filter, take, refl, sym, ap, subst, ◌∙◌, arith, is_none, is_some, Option, Some, None, length-append, append_assoc}
use Rattle.std.specs.Prelude.{All, IsPermutation}
use Rattle.std.proofs.lemmas.List.{map-append, length-map, take-append-le}
use Rattle.std.proofs.lemmas.List.Elements.{All-nil, All-cons, All-head, All-tail, All-append, All-map, All-weaker}
use Rattle.std.proofs.lemmas.List.Sorted.{IsPermutation-trans, IsPermutation-append_comm, IsPermutation-append_left, IsPermutation-append_right}
use Rattle.ing_rows.specs.declared.place.Place.TheVariants.{Head, Block}
use Rattle.ing_rows.specs.Rows.{StreamKey, State, IsSame, is_block, is_flight, is_stored}
use Rattle.ing_rows.specs.Turns.{beside}
use Rattle.ing_chunk.specs.declared.numbered.Numbered.{Numbered}
use Rattle.ing_chunk.specs.Chunks.{ChunkContents, IsWhole, Follow, row_in, block_rows, count_in, chunk_state, chunks_state, in_blocks}
use Rattle.ing_chunk.specs.Parts.{AreParts}
use Rattle.ing_sealed.specs.declared.sealed_chunks.Held.{Held}
use Rattle.ing_sealed.specs.declared.sealed_chunks.Held.TheVariants.{Waiting}
use Rattle.ing_sealed.specs.declared.sealed_chunks.SealedChunks.TheInside.{Inside}
use Rattle.ing_sealed.specs.Slots.{Slot, slot_at, at_place, slot_state, slots_state, IsSlot, AreBelow, AreRising, NoneInFlight, FlyApart, AreSlots}
use Rattle.ing_sealed.specs.KeptSlots.{slot_of, HoldsWhole, AreKept}
use Rattle.ing_sealed.proofs.KeptLaws.{filter_short}
use Rattle.ing_sealed.proofs.PutLaws.{filter_joined}

-- ---- a whole chunk is a slot

pub some_block : (first : ℕ) (bs : List (List Numbered)) → bs ≢ [] → AreParts first bs → 0 < length (in_blocks bs)
some_block first [] some parts = absurd (some refl)
some_block first ([] ∷ bs) some parts = absurd (parts.0.some refl)
some_block first ((e ∷ b) ∷ bs) some parts = omega arith

some_reason : {X : Type 0} (o : Option X) → is_none o ≡ false → is_some o ≡ true
some_reason None h = absurd (cc)
some_reason (Some x) h = refl

whole_slot : (c : ChunkContents) → IsWhole c → IsSlot (slot_at Block c)
whole_slot c h = record { some = some_block c.first c.blocks h.some h.parts; sealed = λ _. some_reason c.reason h.sealed; closed = refl }

abbrev pub waiting_slots : List ChunkContents → List Slot
waiting_slots ws = map (slot_at Block) ws

-- ---- what holds of each holds of those that are taken over

later_slots : (from to : ℕ) (ws : List ChunkContents) → All IsWhole ws → Follow from to ws → All (λ x. from ≤ x.first) (waiting_slots ws)
later_slots from to [] whole h = All-nil (λ (x : Slot). from ≤ x.first)
later_slots from to (c ∷ ws) whole h =
    let first = h.0 in
    All-cons (λ (x : Slot). from ≤ x.first) (slot_at Block c) (waiting_slots ws) (omega (arith, first))
    (All-weaker (λ (x : Slot). from + count_in c ≤ x.first) (λ (x : Slot). from ≤ x.first) (λ x k. omega (arith, k)) (waiting_slots ws) (later_slots (from + count_in c) to ws (All-tail IsWhole c ws whole) h.1))

rising_slots : (from to : ℕ) (ws : List ChunkContents) → All IsWhole ws → Follow from to ws → AreRising (waiting_slots ws)
rising_slots from to [] whole h = tt
rising_slots from to (c ∷ ws) whole h =
    let first = h.0 in
    let is = All-head IsWhole c ws whole in
    let some = some_block c.first c.blocks is.some is.parts in
    let count : count_in c ≡ length (in_blocks c.blocks) = ap (λ l. length l + length (in_blocks c.blocks)) is.closed ∙ omega arith in (
      All-weaker (λ (x : Slot). from + count_in c ≤ x.first) (λ (x : Slot). c.first < x.first) (λ x k. omega (arith, k, first, some, count)) (waiting_slots ws) (later_slots (from + count_in c) to ws (All-tail IsWhole c ws whole) h.1),
      rising_slots (from + count_in c) to ws (All-tail IsWhole c ws whole) h.1,
    )

pub rising_joined : (xs ys : List Slot) → AreRising xs → AreRising ys → All (λ y. AreBelow y.first xs) ys → AreRising (xs ++ ys)
rising_joined [] ys h k below = k
rising_joined (x ∷ xs) ys h k below = (
  All-append (λ (y : Slot). x.first < y.first) xs ys h.0 (All-weaker (λ (y : Slot). AreBelow y.first (x ∷ xs)) (λ (y : Slot). x.first < y.first) (λ y b. All-head (λ (z : Slot). z.first < y.first) x xs b) ys below),
  rising_joined xs ys h.1 k (All-weaker (λ (y : Slot). AreBelow y.first (x ∷ xs)) (λ (y : Slot). AreBelow y.first xs) (λ y b. All-tail (λ (z : Slot). z.first < y.first) x xs b) ys below),
)

pub none_waiting_flies : (f : ℕ) (ws : List ChunkContents) → NoneInFlight f (waiting_slots ws)
none_waiting_flies f ws = All-map (λ (x : Slot). is_flight f x.place ≡ false) (slot_at Block) ws (λ k d h. refl)

apart_waiting : (ws : List ChunkContents) → FlyApart (waiting_slots ws)
apart_waiting [] = tt
apart_waiting (c ∷ ws) = (λ f flies. absurd (cc), apart_waiting ws)

apart_joined : (xs : List Slot) (ws : List ChunkContents) → FlyApart xs → FlyApart (xs ++ waiting_slots ws)
apart_joined [] ws h = apart_waiting ws
apart_joined (x ∷ xs) ws h = (λ f flies. All-append (λ (y : Slot). is_flight f y.place ≡ false) xs (waiting_slots ws) (h.0 f flies) (none_waiting_flies f ws), apart_joined xs ws h.1)

below_waiting : (xs : List Slot) (ws : List ChunkContents) → All (λ c. AreBelow c.first xs) ws → All (λ y. AreBelow y.first xs) (waiting_slots ws)
below_waiting xs ws h = All-map (λ (y : Slot). AreBelow y.first xs) (slot_at Block) ws h

slots_joined : (xs : List Slot) (ws : List ChunkContents) (from to : ℕ) → AreSlots xs → All IsWhole ws → Follow from to ws → All (λ c. AreBelow c.first xs) ws → AreSlots (xs ++ waiting_slots ws)
slots_joined xs ws from to h whole follow below =
    record {
      each = All-append IsSlot xs (waiting_slots ws) h.each (All-map IsSlot (slot_at Block) ws (All-weaker IsWhole (λ c. IsSlot (slot_at Block c)) whole_slot ws whole));
      rising = rising_joined xs (waiting_slots ws) h.rising (rising_slots from to ws whole follow) (below_waiting xs ws below);
      apart = apart_joined xs ws h.apart;
    }

-- ---- counts

count_waiting : (p : Slot → Bool) → ((c : ChunkContents) → p (slot_at Block c) ≡ true) → (ws : List ChunkContents) → length (filter p (waiting_slots ws)) ≡ length ws
count_waiting p all [] = refl
count_waiting p all (c ∷ ws) = let rest = count_waiting p all ws in ap (λ b. length (cond b (slot_at Block c ∷ filter p (waiting_slots ws)) (filter p (waiting_slots ws)))) (all c) ∙ omega (arith, rest)

seen_waiting : (R : Type 0) (ws : List ChunkContents) → map {A = Held R} slot_of (map Waiting ws) ≡ waiting_slots ws
seen_waiting R [] = refl
seen_waiting R (c ∷ ws) = ap (λ l. slot_at Block c ∷ l) (seen_waiting R ws)

module _ {R : Type 0} (c d : Inside R) (ws : List ChunkContents) (is : d.slots.items ≡ c.slots.items ++ map Waiting ws) where
  pub joined_seen : map slot_of d.slots.items ≡ map slot_of c.slots.items ++ waiting_slots ws
  joined_seen = ap (map slot_of) is ∙ map-append slot_of c.slots.items (map Waiting ws) ∙ ap (λ l. map slot_of c.slots.items ++ l) (seen_waiting R ws)

  -- no more wait, or are not stored, than there are
  pub joined_fits : AreKept c → (c.waiting + length ws ≤ length d.slots.items) × (c.unstored + length ws ≤ length d.slots.items)
  joined_fits h =
      let all = ap length is ∙ length-append c.slots.items (map Waiting ws) in
      let more = length-map {B = Held R} ws Waiting in
      let seen = length-map c.slots.items slot_of in
      let waits = filter_short (λ (x : Slot). is_block x.place) (map slot_of c.slots.items) in
      let stays = filter_short (λ (x : Slot). not (is_stored x.place)) (map slot_of c.slots.items) in
      let counted = h.waiting in
      let kept = h.unstored in
      (omega (arith, all, more, seen, waits, counted), omega (arith, all, more, seen, stays, kept))

  pub joined_kept : (from to : ℕ) → All IsWhole ws → Follow from to ws → All (λ w. AreBelow w.first (map slot_of c.slots.items)) ws → d.oldest ≡ c.oldest
      → d.waiting ≡ c.waiting + length ws → d.unstored ≡ c.unstored + length ws → AreKept c → AreKept d
  joined_kept from to whole follow below oldest waiting unstored h =
      let xs = map slot_of c.slots.items in
      let long = ap length joined_seen ∙ length-append xs (waiting_slots ws) in
      let low = h.within in
      let waits = λ (x : Slot). is_block x.place in
      let stays = λ (x : Slot). not (is_stored x.place) in
      let all_wait = count_waiting waits (λ w. refl) ws in
      let all_stay = count_waiting stays (λ w. refl) ws in
      let count_waits = ap (λ l. length (filter waits l)) joined_seen ∙ filter_joined waits xs (waiting_slots ws) in
      let count_stays = ap (λ l. length (filter stays l)) joined_seen ∙ filter_joined stays xs (waiting_slots ws) in
      let before_waits = h.waiting in
      let before_stays = h.unstored in
      record {
        slots = subst AreSlots (sym joined_seen) (slots_joined xs ws from to h.slots whole follow below);
        whole = subst (All HoldsWhole) (sym is) (All-append HoldsWhole c.slots.items (map Waiting ws) h.whole (All-map {X = Held R} HoldsWhole Waiting ws whole));
        older = subst (All (λ (x : Slot). is_block x.place ≡ false)) (sym ((λ i. take (oldest i) (joined_seen i)) ∙ take-append-le c.oldest xs (waiting_slots ws) low)) h.older;
        within = omega (arith, oldest, long, low);
        waiting = omega (arith, waiting, all_wait, count_waits, before_waits);
        unstored = omega (arith, unstored, all_stay, count_stays, before_stays);
      }

-- ---- the state of those that are taken over

at_block : (s : StreamKey) (first index : ℕ) (bs : List (List Numbered)) → map (at_place Block) (block_rows s first index bs) ≡ block_rows s first index bs
at_block s first index [] = refl
at_block s first index (b ∷ bs) =
    map-append (at_place Block) (map (row_in s first index Block) b) (block_rows s first (index + 1) bs)
    ∙ (λ i. in_place b i ++ at_block s first (index + 1) bs i) where
      in_place : (es : List Numbered) → map (at_place Block) (map (row_in s first index Block) es) ≡ map (row_in s first index Block) es
      in_place [] = refl
      in_place (e ∷ es) = ap (λ l. row_in s first index Block e ∷ l) (in_place es)

slot_is_chunk : (s : StreamKey) (c : ChunkContents) → IsWhole c → slot_state s (slot_at Block c) ≡ chunk_state s c
slot_is_chunk s c h = λ i. record {
  rows = (at_block s c.first 0 c.blocks ∙ ap (λ l. map (row_in s c.first (length c.blocks) Head) l ++ block_rows s c.first 0 c.blocks) (sym h.closed)) i;
  marks = record { stream = s; chunk = c.first; last_update = c.last_update; reason = c.reason } ∷ [];
}

slots_are_chunks : (s : StreamKey) (ws : List ChunkContents) → All IsWhole ws → slots_state s (waiting_slots ws) ≡ chunks_state s ws
slots_are_chunks s [] h = refl
slots_are_chunks s (c ∷ ws) h = λ i. beside (slot_is_chunk s c (All-head IsWhole c ws h) i) (slots_are_chunks s ws (All-tail IsWhole c ws h) i)

beside_assoc : (a b c : State) → beside (beside a b) c ≡ beside a (beside b c)
beside_assoc a b c = λ i. record { rows = append_assoc a.rows b.rows c.rows i; marks = append_assoc a.marks b.marks c.marks i }

state_joined : (s : StreamKey) (xs ys : List Slot) → slots_state s (xs ++ ys) ≡ beside (slots_state s xs) (slots_state s ys)
state_joined s [] ys = refl
state_joined s (x ∷ xs) ys = ap (beside (slot_state s x)) (state_joined s xs ys) ∙ sym (beside_assoc (slot_state s x) (slots_state s xs) (slots_state s ys))

-- what a stream gives away, the slots have
pub state_taken : (s : StreamKey) (old new : State) (xs ys : List Slot) (ws : List ChunkContents) → All IsWhole ws → ys ≡ xs ++ waiting_slots ws → IsSame old (beside new (chunks_state s ws))
    → IsSame (beside old (slots_state s xs)) (beside new (slots_state s ys))
state_taken s old new xs ys ws whole is gone =
    subst (λ st. IsSame (beside old (slots_state s xs)) (beside new st)) (sym (ap (slots_state s) is ∙ state_joined s xs (waiting_slots ws) ∙ ap (beside (slots_state s xs)) (slots_are_chunks s ws whole)))
    (record {
      rows = moved old.rows new.rows (chunks_state s ws).rows (slots_state s xs).rows gone.rows;
      marks = moved old.marks new.marks (chunks_state s ws).marks (slots_state s xs).marks gone.marks;
    }) where
      moved : {X : Type 0} (o n w x : List X) → IsPermutation o (n ++ w) → IsPermutation (o ++ x) (n ++ (x ++ w))
      moved o n w x h =
          IsPermutation-trans (o ++ x) ((n ++ w) ++ x) (n ++ (x ++ w)) (IsPermutation-append_left x o (n ++ w) h)
          (subst (λ l. IsPermutation l (n ++ (x ++ w))) (sym (append_assoc n w x)) (IsPermutation-append_right n (w ++ x) (x ++ w) (IsPermutation-append_comm w x)))
