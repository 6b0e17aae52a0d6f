-- What is kept of sealed chunks goes on where one of them changes.
use Rattle.std.proofs.Common.{◌≡◌, ℕ, zero, suc, ◌+◌, ◌<◌, ◌≤◌, Bool, true, false, cond, not, Some, List, [], ◌∷◌, ◌++◌, map, filter, length, get_or, set, take, refl, sym, ap, subst, ◌∙◌, arith, length-append}
use Rattle.std.specs.Prelude.{All, slice_get}
use Rattle.std.proofs.lemmas.Bool.{eqb-true}
use Rattle.std.proofs.lemmas.List.{set-set, map-set, take-take, take-append-le, length-map, get_or-map}
use Rattle.std.proofs.lemmas.List.Elements.{All-cons, All-head, All-more, All-nil, All-push, All-tail, All-take, All-set}
use Rattle.std.proofs.lemmas.List.Filters.{length-filter_both}
use Rattle.std.proofs.lemmas.Option.{slice_get-get_or, slice_get_within, get_or_from_slice_get}
use Rattle.std.proofs.Math.Seq.{map-set_same, take-append-add}
use Rattle.ing_rows.specs.declared.place.Place.TheVariants.{Block, Flight}
use Rattle.ing_rows.specs.Rows.{is_block, is_flight, is_stored}
use Rattle.ing_chunk.specs.Chunks.{ChunkContents}
use Rattle.ing_sealed.specs.declared.sealed_chunks.Held.{Held}
use Rattle.ing_sealed.specs.declared.sealed_chunks.SealedChunks.TheInside.{Inside}
use Rattle.ing_sealed.specs.Slots.{Slot, slot_at, put_at, stored_at, IsSlot, NoneInFlight, AreSlots, Changes}
use Rattle.ing_sealed.specs.KeptSlots.{slot_of, HoldsWhole, AreKept}
use Rattle.ing_sealed.proofs.PutLaws.{split, all_there, all_before, all_behind, count_around, slots_put}

-- the same chunks at the same places
pub kept_again : {R : Type 0} (c d : Inside R) → map slot_of d.slots.items ≡ map slot_of c.slots.items → d.oldest ≡ c.oldest → d.waiting ≡ c.waiting → d.unstored ≡ c.unstored
    → All HoldsWhole d.slots.items → AreKept c → AreKept d
kept_again c d same oldest waiting unstored whole h =
    record {
      slots = subst AreSlots (sym same) h.slots;
      whole = whole;
      older = subst (All (λ (x : Slot). is_block x.place ≡ false)) (λ i. take (sym oldest i) (sym same i)) h.older;
      within = let long = ap length same in let within = h.within in omega (arith, oldest);
      waiting = waiting ∙ h.waiting ∙ ap (λ l. length (filter (λ (x : Slot). is_block x.place) l)) (sym same);
      unstored = unstored ∙ h.unstored ∙ ap (λ l. length (filter (λ (x : Slot). not (is_stored x.place)) l)) (sym same);
    }

-- one is taken out and put back as the same
pub put_back : {R : Type 0} (items : List (Held R)) (i : ℕ) (other now d : Held R) → slot_of now ≡ slot_of (get_or items i d) → map slot_of (set (set items i other) i now) ≡ map slot_of items
put_back items i other now d same = ap (map slot_of) (set-set items i other now) ∙ map-set_same slot_of items i now d same

pub put_back_whole : {R : Type 0} (items : List (Held R)) (i : ℕ) (other now : Held R) → HoldsWhole now → All HoldsWhole items → All HoldsWhole (set (set items i other) i now)
put_back_whole items i other now whole h = subst (All HoldsWhole) (sym (set-set items i other now)) (All-set HoldsWhole items i now whole h)

-- one that is read
pub read_slot : {R : Type 0} (items : List (Held R)) (i : ℕ) (d : Held R) → i < length (map slot_of items) → slice_get (map slot_of items) i ≡ Some (slot_of (get_or items i d))
read_slot items i d low =
    slice_get-get_or (map slot_of items) i (slot_of d) low ∙ ap Some (get_or-map slot_of items i d (slot_of d) (omega (arith, low, length-map items slot_of)))

pub in_list : {R : Type 0} (items : List (Held R)) (i : ℕ) (x : Slot) → slice_get (map slot_of items) i ≡ Some x → i < length items
in_list items i x here = omega (arith, slice_get_within (map slot_of items) i x here, length-map items slot_of)

pub found : {R : Type 0} (items : List (Held R)) (i : ℕ) (d : Held R) (x : Slot) → slice_get (map slot_of items) i ≡ Some x → slot_of (get_or items i d) ≡ x
found items i d x here = sym (get_or-map slot_of items i d (slot_of d) (in_list items i x here)) ∙ get_or_from_slice_get (map slot_of items) i x (slot_of d) here

-- one more that does not wait
pub one_more : {R : Type 0} (items : List (Held R)) (i : ℕ) (d : Held R) → i < length items → is_block (slot_of (get_or items i d)).place ≡ false
    → All (λ x. is_block x.place ≡ false) (take i (map slot_of items)) → All (λ x. is_block x.place ≡ false) (take (i + 1) (map slot_of items))
one_more items i d low away h =
    let long = length-map items slot_of in
    All-more (λ (x : Slot). is_block x.place ≡ false) (map slot_of items) i (slot_of d) (omega (arith, low, long)) h
    (subst (λ (x : Slot). is_block x.place ≡ false) (sym (get_or-map slot_of items i d (slot_of d) low)) away)

-- the first that waits
pub first_there : (i : ℕ) (x : Slot) (xs ys : List Slot) → xs ≡ ys → i < length xs → All (λ y. is_block y.place ≡ false) (take i xs) → slice_get xs i ≡ Some x → is_block x.place ≡ true
    → (i < length ys) × All (λ y. is_block y.place ≡ false) (take i ys) × ((y : Slot) → slice_get ys i ≡ Some y → is_block y.place ≡ true)
first_there i x xs ys same low older read waits = (
  subst (λ l. i < length l) same low,
  subst (λ l. All (λ (y : Slot). is_block y.place ≡ false) (take i l)) same older,
  λ y at. let both = sym read ∙ ap (λ l. slice_get l i) same ∙ at in let is : x ≡ y = cc in subst (λ (z : Slot). is_block z.place ≡ true) is waits,
)

-- ---- one of them changes

abbrev pub changed : {R : Type 0} (items : List (Held R)) (old : List Slot) (i : ℕ) (x : Slot) (f : Slot → Slot) (h : Held R) → map slot_of items ≡ old → slice_get old i ≡ Some x → slot_of h ≡ f x
    → Changes f i x old (map slot_of (set items i h))
changed items old i x f h seen here is =
    let cut = split old i x here in
    record { front = cut.front; back = cut.back; was = cut.is; is = map-set slot_of items i h ∙ (λ j. set (seen j) i (is j)) ∙ cut.put (f x); at = cut.at }

-- one passes
pub some_passes : (p : Slot → Bool) (xs : List Slot) (i : ℕ) (x : Slot) → slice_get xs i ≡ Some x → p x ≡ true → 1 ≤ length (filter p xs)
some_passes p xs i x here passes =
    let cut = split xs i x here in
    let count = ap (λ l. length (filter p l)) cut.is ∙ count_around p cut.front x cut.back ∙ ap (λ b. length (filter p cut.front) + (cond b 1 0 + length (filter p cut.back))) passes in
    omega (arith, count)

-- where one does not wait, fewer wait than there are
pub few_wait : {R : Type 0} (c : Inside R) (i : ℕ) (x : Slot) → slice_get (map slot_of c.slots.items) i ≡ Some x → is_block x.place ≡ false → AreKept c → c.waiting < length c.slots.items
few_wait c i x here away kept =
    let others = some_passes (λ (y : Slot). not (is_block y.place)) (map slot_of c.slots.items) i x here (ap not away) in
    let both = length-filter_both (λ (y : Slot). is_block y.place) (λ (y : Slot). not (is_block y.place)) (λ y. refl) (map slot_of c.slots.items) in
    let long = length-map c.slots.items slot_of in
    let waiting = kept.waiting in
    omega (arith, others, both, long, waiting)

abbrev Elsewhere : Slot → Type 0
Elsewhere x = is_block x.place ≡ false

-- what is kept after one changes
module _ {R : Type 0} (c d : Inside R) (i : ℕ) (x : Slot) (f : Slot → Slot) (h : Changes f i x (map slot_of c.slots.items) (map slot_of d.slots.items)) (kept : AreKept c) where
  passing : (p : Slot → Bool) → length (filter p (map slot_of d.slots.items)) + cond (p x) 1 0 ≡ length (filter p (map slot_of c.slots.items)) + cond (p (f x)) 1 0
  passing p =
      let before = ap (λ l. length (filter p l)) h.was ∙ count_around p h.front x h.back in
      let after = ap (λ l. length (filter p l)) h.is ∙ count_around p h.front (f x) h.back in
      omega (arith, before, after)

  as_long : (length (map slot_of d.slots.items) ≡ length (map slot_of c.slots.items)) × (i < length (map slot_of d.slots.items))
  as_long =
      let before = ap length h.was ∙ length-append h.front (x ∷ h.back) in
      let after = ap length h.is ∙ length-append h.front (f x ∷ h.back) in
      let at = h.at in
      (omega (arith, before, after), omega (arith, after))

  slots_before : AreSlots (h.front ++ x ∷ h.back)
  slots_before = subst AreSlots h.was kept.slots

  slot_before : IsSlot x
  slot_before = all_there IsSlot h.front x h.back slots_before.each

  older_before : All Elsewhere (take c.oldest (h.front ++ x ∷ h.back))
  older_before = subst (λ l. All Elsewhere (take c.oldest l)) h.was kept.older

  kept_after : (f x).first ≡ x.first → IsSlot (f x) → ((g : ℕ) → is_flight g (f x).place ≡ true → NoneInFlight g (h.front ++ x ∷ h.back)) → All HoldsWhole d.slots.items
      → All Elsewhere (take d.oldest (h.front ++ f x ∷ h.back)) → d.oldest ≤ length (map slot_of d.slots.items)
      → d.waiting + cond (is_block x.place) 1 0 ≡ c.waiting + cond (is_block (f x).place) 1 0
      → d.unstored + cond (not (is_stored x.place)) 1 0 ≡ c.unstored + cond (not (is_stored (f x).place)) 1 0 → AreKept d
  kept_after same slot free whole older within waiting unstored =
      let waits = passing (λ z. is_block z.place) in
      let stays = passing (λ z. not (is_stored z.place)) in
      let before = kept.waiting in
      let left = kept.unstored in
      record {
        slots =
            subst AreSlots (sym h.is)
            (slots_put x (f x) h.front h.back same slot
            (λ g flies. all_before (λ (z : Slot). is_flight g z.place ≡ false) h.front x h.back (free g flies))
            (λ g flies. all_behind (λ (z : Slot). is_flight g z.place ≡ false) h.front x h.back (free g flies)) slots_before);
        whole = whole;
        older = subst (λ l. All Elsewhere (take d.oldest l)) (sym h.is) older;
        within = within;
        waiting = omega (arith, waiting, before, waits);
        unstored = omega (arith, unstored, left, stays);
      }

pub filter_short : (p : Slot → Bool) (xs : List Slot) → length (filter p xs) ≤ length xs
filter_short p xs = let both = length-filter_both p (λ x. not (p x)) (λ x. refl) xs in omega (arith, both)

-- what holds of the first ones of a list
module _ (P : Slot → Type 0) where
  all_fewer : (n m : ℕ) (xs : List Slot) → n ≤ m → All P (take m xs) → All P (take n xs)
  all_fewer n m xs few h = subst (All P) (take-take n m xs few) (All-take P n (take m xs) h)

  all_prefix : (n : ℕ) (front rest other : List Slot) → n ≤ length front → All P (take n (front ++ rest)) → All P (take n (front ++ other))
  all_prefix n front rest other few h = subst (All P) (take-append-le n front rest few ∙ sym (take-append-le n front other few)) h

  all_but : (n : ℕ) (front : List Slot) (x y : Slot) (back : List Slot) → P y → All P (take n (front ++ x ∷ back)) → All P (take n (front ++ y ∷ back))
  all_but zero front x y back p h = All-nil P
  all_but (suc n) [] x y back p h = All-cons P y (take n back) p (All-tail P x (take n back) h)
  all_but (suc n) (z ∷ front) x y back p h = All-cons P z (take n (front ++ y ∷ back)) (All-head P z (take n (front ++ x ∷ back)) h) (all_but n front x y back p (All-tail P z (take n (front ++ x ∷ back)) h))

-- a chunk in blocks is put in flight, or one in flight in blocks again, or it is stored
module _ {R : Type 0} (c d : Inside R) (f i : ℕ) (chunk : ChunkContents) (kept : AreKept c) (whole : All HoldsWhole d.slots.items) where
  pub claimed_kept : (h : Changes (put_at (Flight f)) i (slot_at Block chunk) (map slot_of c.slots.items) (map slot_of d.slots.items)) → All Elsewhere h.front
      → NoneInFlight f (map slot_of c.slots.items) → d.oldest ≡ i + 1 → d.waiting + 1 ≡ c.waiting → d.unstored ≡ c.unstored → AreKept d
  claimed_kept h older free oldest waiting unstored =
      let x : Slot = slot_at Block chunk in
      let slot = slot_before c d i x (put_at (Flight f)) h kept in
      let all = as_long c d i x (put_at (Flight f)) h kept in
      let at = h.at in
      let front : take d.oldest (h.front ++ slot_at (Flight f) chunk ∷ h.back) ≡ h.front ++ slot_at (Flight f) chunk ∷ [] =
      ap (λ n. take n (h.front ++ slot_at (Flight f) chunk ∷ h.back)) (oldest ∙ ap (λ n. n + 1) (sym at)) ∙ take-append-add h.front (slot_at (Flight f) chunk ∷ h.back) 1 in
      kept_after c d i x (put_at (Flight f)) h kept refl (record { some = slot.some; sealed = λ _. slot.sealed refl; closed = refl })
      (λ g flies. subst (λ k. NoneInFlight k (h.front ++ x ∷ h.back)) (sym (eqb-true g f flies)) (subst (NoneInFlight f) h.was free)) whole
      (subst (All Elsewhere) (sym front) (All-push Elsewhere h.front (slot_at (Flight f) chunk) older refl))
      (omega (arith, oldest, all.1)) (omega (arith, waiting)) (omega (arith, unstored))

  pub back_kept : Changes (put_at Block) i (slot_at (Flight f) chunk) (map slot_of c.slots.items) (map slot_of d.slots.items) → d.oldest ≤ c.oldest → d.oldest ≤ i
      → d.waiting ≡ c.waiting + 1 → d.unstored ≡ c.unstored → AreKept d
  back_kept h below here waiting unstored =
      let x : Slot = slot_at (Flight f) chunk in
      let slot = slot_before c d i x (put_at Block) h kept in
      let all = as_long c d i x (put_at Block) h kept in
      let at = h.at in
      kept_after c d i x (put_at Block) h kept refl (record { some = slot.some; sealed = λ _. slot.sealed refl; closed = refl }) (λ g flies. absurd (cc)) whole
      (all_prefix Elsewhere d.oldest h.front (x ∷ h.back) (slot_at Block chunk ∷ h.back) (omega (arith, at, here)) (all_fewer Elsewhere d.oldest c.oldest (h.front ++ x ∷ h.back) below (older_before c d i x (put_at Block) h kept)))
      (omega (arith, all.1, here)) (omega (arith, waiting)) (omega (arith, unstored))

  pub stored_kept : (key : List ℕ) → Changes (stored_at key) i (slot_at (Flight f) chunk) (map slot_of c.slots.items) (map slot_of d.slots.items) → d.oldest ≡ c.oldest
      → d.waiting ≡ c.waiting → d.unstored + 1 ≡ c.unstored → AreKept d
  stored_kept key h oldest waiting unstored =
      let x : Slot = slot_at (Flight f) chunk in
      let slot = slot_before c d i x (stored_at key) h kept in
      let all = as_long c d i x (stored_at key) h kept in
      let low = kept.within in
      kept_after c d i x (stored_at key) h kept refl (record { some = slot.some; sealed = λ k. absurd (cc); closed = refl }) (λ g flies. absurd (cc)) whole
      (subst (λ n. All Elsewhere (take n (h.front ++ stored_at key x ∷ h.back))) (sym oldest) (all_but Elsewhere c.oldest h.front x (stored_at key x) h.back refl (older_before c d i x (stored_at key) h kept)))
      (omega (arith, oldest, low, all.0)) (omega (arith, waiting)) (omega (arith, unstored))
