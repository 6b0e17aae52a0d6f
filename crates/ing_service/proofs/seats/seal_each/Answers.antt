use Rattle.std.proofs.Common.{◌≡◌, ◌∙◌, ◌+◌, ◌++◌, ap, ◌<◌, arith, get_or, length, map, refl, subst, sym}
use Rattle.std.proofs.Math.Seq.{map-set_same}
use Rattle.std.proofs.lemmas.List.{map-set}
use Rattle.ing_durable.specs.Kept.{Whose, whose}
use Rattle.ing_service.specs.ByShards.{Seals, event_of}
use Rattle.ing_service.specs.Held.{shard_held}
use Rattle.ing_service.proofs.EachLaws.{held_at, held_here}
use Rattle.ing_service.proofs.SealLaws.{HaveSealed, one_sealed}
use Rattle.ing_service.proofs.WhoseLaws.{which}
use Rattle.ing_service.proofs.seats.seal_each.Goals as goal

pub returns-in_err-due-clause-same : goal.returns-in_err-due-clause-same
returns-in_err-due-clause-same g c = map-set_same (λ seat. whose seat.shard.memory) c.loop-seat.seats c.loop-seat.seat-index c.seal.new.self _ c.in_err-due.ensures.same ∙ c.loop-seat.invariant.same

pub returns-in_err-extend_from_slice-clause-same : goal.returns-in_err-extend_from_slice-clause-same
returns-in_err-extend_from_slice-clause-same g c = map-set_same (λ seat. whose seat.shard.memory) c.loop-seat.seats c.loop-seat.seat-index c.seal.new.self _ c.in_ok-due.ensures.same ∙ c.loop-seat.invariant.same

-- one shard more has sealed
pub loop-seat-preserved : goal.loop-seat-preserved
loop-seat-preserved g c =
    let seats = c.loop-seat.seats in
    let i = c.loop-seat.seat-index in
    let d = c.seat-item.result in
    let seat = get_or seats i d in
    let new = c.seal.new.self in
    let event = event_of c.args.which.now in
    let here : i < length seats = omega arith in
    let done = c.in_ok-due.ensures in
    let due = c.in_ok-due.due in
    record {
      seals = λ settings are.
          let it : whose seat.shard.memory ≡ record { settings = settings; number = i } = which (λ seat. whose seat.shard.memory) settings seats (c.loop-seat.invariant.same ∙ are) i seat d here refl in
          subst (λ l. HaveSealed settings event (i + 1) (map (λ seat. shard_held seat.shard) c.args.seats.now) l c.saturating_add-sealed.result c.extend_from_slice.new.self.items) (sym (map-set (λ seat. shard_held seat.shard) seats i new))
          (one_sealed settings event i (map (λ seat. shard_held seat.shard) c.args.seats.now) (map (λ seat. shard_held seat.shard) seats) c.loop-seat.sealed c.saturating_add-sealed.result due.sealed new.shard.memory.number c.loop-seat.ops.items c.extend_from_slice.new.self.items due.ops.items (shard_held seat.shard) (shard_held new.shard)
          (c.loop-seat.invariant.seals settings are) (held_here (λ seat. shard_held seat.shard) seats i seat d here refl) (held_here (λ seat. shard_held seat.shard) c.args.seats.now i (get_or c.args.seats.now i d) d c.loop-seat-test.true refl) (held_at (λ seat. shard_held seat.shard) seats i seat d here refl)
          (subst (λ s. Seals s event due.sealed (shard_held seat.shard) (shard_held new.shard)) (ap (λ (w : Whose). w.settings) it) done.seals)
          c.saturating_add-sealed.ensures (c.in_ok-extend_from_slice.ensures.items ∙ ap (λ l. c.loop-seat.ops.items ++ l) c.deref.ensures.value) done.ops (ap (λ (w : Whose). w.number) (done.same ∙ it)));
      same = map-set_same (λ seat. whose seat.shard.memory) seats i new d done.same ∙ c.loop-seat.invariant.same;
    }
