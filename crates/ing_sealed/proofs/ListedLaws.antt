-- A stored chunk is added behind the others.
use Rattle.std.proofs.Common.{◌≡◌, ℕ, ◌<◌, false, not, List, [], ◌∷◌, ◌++◌, length, map, filter, take, refl, sym, ap, subst, ◌∙◌, arith, length-append}
use Rattle.std.specs.Prelude.{All}
use Rattle.std.proofs.lemmas.List.{map-append, take-append-le}
use Rattle.std.proofs.lemmas.List.Elements.{All-nil, All-cons, All-push}
use Rattle.ing_rows.specs.Rows.{is_block, is_flight, is_stored}
use Rattle.ing_chunk.specs.declared.numbered.Numbered.{Numbered}
use Rattle.ing_chunk.specs.Chunks.{in_blocks}
use Rattle.ing_parts.specs.Listings.{Listed, IsSpelt}
use Rattle.ing_sealed.specs.declared.sealed_chunks.Held.TheVariants.{Stored}
use Rattle.ing_sealed.specs.declared.sealed_chunks.SealedChunks.TheInside.{Inside}
use Rattle.ing_sealed.specs.Slots.{Slot, slot_listed, IsSlot, AreBelow, FlyApart, AreSlots}
use Rattle.ing_sealed.specs.KeptSlots.{slot_of, HoldsWhole, AreKept}
use Rattle.ing_sealed.proofs.JoinLaws.{some_block, rising_joined}
use Rattle.ing_sealed.proofs.PutLaws.{filter_joined}

-- what can be listed has an entry
listed_slot : (l : Listed) → IsSpelt l → IsSlot (slot_listed l)
listed_slot l h =
    let numbered = h.is.numbered in
    record {
      some = subst (λ (bs : List (List Numbered)). 0 < length (in_blocks bs)) (sym h.blocks) (some_block h.object.first h.object.blocks numbered.some numbered.parts);
      sealed = λ k. absurd (cc);
      closed = refl;
    }

-- one that is in no flight
apart_pushed : (xs : List Slot) (x : Slot) → ((f : ℕ) → is_flight f x.place ≡ false) → FlyApart xs → FlyApart (xs ++ x ∷ [])
apart_pushed [] x away h = (λ f flies. All-nil (λ (y : Slot). is_flight f y.place ≡ false), tt)
apart_pushed (y ∷ xs) x away h = (λ f flies. All-push (λ (z : Slot). is_flight f z.place ≡ false) xs x (h.0 f flies) (away f), apart_pushed xs x away h.1)

slots_pushed : (xs : List Slot) (x : Slot) → AreSlots xs → IsSlot x → AreBelow x.first xs → ((f : ℕ) → is_flight f x.place ≡ false) → AreSlots (xs ++ x ∷ [])
slots_pushed xs x h is below away =
    record {
      each = All-push IsSlot xs x h.each is;
      rising = rising_joined xs (x ∷ []) h.rising (All-nil (λ (y : Slot). x.first < y.first), tt) (All-cons (λ (y : Slot). AreBelow y.first xs) x [] below (All-nil (λ (y : Slot). AreBelow y.first xs)));
      apart = apart_pushed xs x away h.apart;
    }

module _ {R : Type 0} (c d : Inside R) (l : Listed) (is : d.slots.items ≡ c.slots.items ++ Stored l ∷ []) where
  pub listed_seen : map slot_of d.slots.items ≡ map slot_of c.slots.items ++ slot_listed l ∷ []
  listed_seen = ap (map slot_of) is ∙ map-append slot_of c.slots.items (Stored l ∷ [])

  pub listed_kept : IsSpelt l → AreBelow l.first (map slot_of c.slots.items) → d.oldest ≡ c.oldest → d.waiting ≡ c.waiting → d.unstored ≡ c.unstored → AreKept c → AreKept d
  listed_kept spelt below oldest waiting unstored h =
      let xs = map slot_of c.slots.items in
      let x = slot_listed l in
      let long = ap length listed_seen ∙ length-append xs (x ∷ []) in
      let low = h.within in
      let waits = λ (y : Slot). is_block y.place in
      let stays = λ (y : Slot). not (is_stored y.place) in
      let count_waits = ap (λ ys. length (filter waits ys)) listed_seen ∙ filter_joined waits xs (x ∷ []) in
      let count_stays = ap (λ ys. length (filter stays ys)) listed_seen ∙ filter_joined stays xs (x ∷ []) in
      let before_waits = h.waiting in
      let before_stays = h.unstored in
      record {
        slots = subst AreSlots (sym listed_seen) (slots_pushed xs x h.slots (listed_slot l spelt) below (λ f. refl));
        whole = subst (All HoldsWhole) (sym is) (All-push HoldsWhole c.slots.items (Stored l) h.whole tt);
        older = subst (All (λ (y : Slot). is_block y.place ≡ false)) (sym ((λ i. take (oldest i) (listed_seen i)) ∙ take-append-le c.oldest xs (x ∷ []) low)) h.older;
        within = omega (arith, oldest, long, low);
        waiting = omega (arith, waiting, count_waits, before_waits);
        unstored = omega (arith, unstored, count_stays, before_stays);
      }
