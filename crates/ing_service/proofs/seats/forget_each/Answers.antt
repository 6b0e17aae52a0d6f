use Rattle.std.proofs.Common.{◌≡◌, ◌∙◌, ◌<◌, ap, arith, false, length, subst, sym, take}
use Rattle.std.specs.Prelude.{All, is_some}
use Rattle.std.proofs.Math.Seq.{map-set_same}
use Rattle.std.proofs.lemmas.List.{take_more_set}
use Rattle.std.proofs.lemmas.List.Elements.{All-push}
use Rattle.ing_durable.specs.Kept.{whose}
use Rattle.ing_service.specs.Held.{shard_held}
use Rattle.ing_service.proofs.seats.forget_each.Goals as goal

pub loop-seat-preserved : goal.loop-seat-preserved
loop-seat-preserved g c =
    let seats = c.loop-seat.seats in
    let i = c.loop-seat.seat-index in
    let d = c.seat-item.result in
    let new = c.forget.new.self in
    let here : i < length seats = omega arith in
    record {
      none = subst (All (λ seat. is_some seat.unsynced ≡ false)) (sym (take_more_set seats i new here)) (All-push (λ seat. is_some seat.unsynced ≡ false) (take i seats) new c.loop-seat.invariant.none c.forget.ensures.none);
      held = map-set_same (λ seat. shard_held seat.shard) seats i new d (ap (λ shard. shard_held shard) c.forget.ensures.shard) ∙ c.loop-seat.invariant.held;
      same = map-set_same (λ seat. whose seat.shard.memory) seats i new d (ap (λ shard. whose shard.memory) c.forget.ensures.shard) ∙ c.loop-seat.invariant.same;
    }
