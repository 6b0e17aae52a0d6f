use Rattle.std.proofs.Common.{◌≡◌, ◌+◌, ◌<◌, ◌++◌, ◌∷◌, [], List, length, take, get_or, map, ap, sym, subst, ◌∙◌, arith}
use Rattle.std.proofs.lemmas.List.{take_more}
use Rattle.std.proofs.lemmas.List.{map-append}
use Rattle.ing_parts.specs.declared.found.Found.{Found}
use Rattle.ing_parts.specs.Parts.{Adds}
use Rattle.ing_sealed.specs.declared.sealed_chunks.Held.{Held}
use Rattle.ing_sealed.specs.KeptSlots.{slot_of}
use Rattle.ing_sealed.specs.Slots.{found_at_slot, found_at_slots}
use Rattle.ing_sealed.proofs.FoundLaws.{slots_more}
use Rattle.ing_sealed.proofs.sealed_chunks.SealedChunks.add_slots.Goals as goal

pub loop-held-init : goal.loop-held-init
loop-held-init g c = c.additions_join.ensures.none c.args.snapshot.now

pub loop-held-preserved : goal.loop-held-preserved
loop-held-preserved g c =
    let hs = c.deref-held-items.result.now in
    let i = c.loop-held.held-index in
    let x : Held g.row.R.Denot = c.held-item.result in
    let name = c.args.name.now in
    let below : i < length hs = omega arith in
    let whole : take (i + 1) hs ≡ take i hs ++ get_or hs i x ∷ [] = take_more hs i x below in
    let is : get_or hs i x ≡ x = sym c.held-item.is in
    let more : take (i + 1) hs ≡ take i hs ++ x ∷ [] = subst (λ (y : Held g.row.R.Denot). take (i + 1) hs ≡ take i hs ++ y ∷ []) is whole in
    let slots : map slot_of (take (i + 1) hs) ≡ map slot_of (take i hs) ++ slot_of x ∷ [] = ap (map slot_of) more ∙ map-append slot_of (take i hs) (x ∷ []) in
    let found = sym (slots_more name (map slot_of (take i hs)) (slot_of x)) ∙ ap (found_at_slots name) (sym slots) in
    subst (λ (a : List Found). Adds a c.args.snapshot.now c.add_held.new.snapshot) found
    (c.additions_join.ensures.both (found_at_slots name (map slot_of (take i hs))) (found_at_slot name (slot_of x)) c.args.snapshot.now c.loop-held.snapshot c.add_held.new.snapshot c.loop-held.invariant c.in_ok-add_held.ensures)
