use Rattle.std.proofs.Common.{◌≡◌, ◌<◌, length, map, get_or, false, true, sym, ap, subst, ◌∙◌, arith}
use Rattle.std.specs.Prelude.{All}
use Rattle.std.proofs.lemmas.List.{length-map, take_all}
use Rattle.ing_rows.specs.Rows.{is_block}
use Rattle.ing_sealed.specs.Slots.{Slot}
use Rattle.ing_sealed.specs.KeptSlots.{slot_of}
use Rattle.ing_sealed.proofs.KeptLaws.{one_more, first_there, read_slot}
use Rattle.ing_sealed.proofs.sealed_chunks.SealedChunks.first_waiting.Goals as goal

pub loop-index-preserved : goal.loop-index-preserved
loop-index-preserved g c =
    let items = c.self.inside.slots.items in
    let long = c.self.inside.slots.ok.0 in
    let below = c.loop-index-test.true in
    let end = c.len-index-end.ensures in
    one_more items c.loop-index.index c.index.result.now (omega (arith, long, below, end))
    (ap (λ h. is_block (slot_of h).place) (sym c.index.ensures) ∙ sym c.waits.ensures ∙ c.if-waits.false) c.loop-index.invariant

pub returns-then-waits-clause-some : goal.returns-then-waits-clause-some
returns-then-waits-clause-some g c =
    let items = c.self.inside.slots.items in
    let i = c.loop-index.index in
    let long = c.self.inside.slots.ok.0 in
    let many = length-map items slot_of in
    let below = c.loop-index-test.true in
    let end = c.len-index-end.ensures in
    let low : i < length (map slot_of items) = omega (arith, long, many, below, end) in
    let waits : is_block (slot_of (get_or items i c.index.result.now)).place ≡ true = ap (λ h. is_block (slot_of h).place) (sym c.index.ensures) ∙ sym c.waits.ensures ∙ c.if-waits.true in
    first_there i (slot_of (get_or items i c.index.result.now)) (map slot_of items) c.args.self.now c.self.view_is low c.loop-index.invariant (read_slot items i c.index.result.now low) waits

pub returns-clause-none : goal.returns-clause-none
returns-clause-none g c =
    let items = c.self.inside.slots.items in
    let long = c.self.inside.slots.ok.0 in
    let many = length-map items slot_of in
    let past = c.loop-index-test.false in
    let end = c.len-index-end.ensures in
    subst (All (λ (x : Slot). is_block x.place ≡ false)) (take_all c.loop-index.index (map slot_of items) (omega (arith, long, many, past, end)) ∙ c.self.view_is) c.loop-index.invariant
