use Rattle.std.proofs.Common.{◌∙◌, ◌∷◌, [], ◌++◌, ◌+◌, ◌<◌, arith, get_or, length, map, refl, subst, sym}
use Rattle.std.specs.Prelude.{All}
use Rattle.std.proofs.Math.Seq.{map-set_same}
use Rattle.std.proofs.lemmas.List.{map-set}
use Rattle.ing_durable.specs.Kept.{whose}
use Rattle.ing_service.specs.Flushes.{IsSaved}
use Rattle.ing_service.specs.Held.{IsBelowCount, shard_held}
use Rattle.ing_service.proofs.EachLaws.{HaveGone, held_at, held_here, one_gone}
use Rattle.ing_service.proofs.WhoseLaws.{one_below}
use Rattle.ing_service.proofs.seats.save_each.Goals as goal

-- its number is below how many shards there are
pub save-requires : goal.save-requires
save-requires g c = one_below (λ seat. whose seat.shard.memory) c.loop-seat.seats (subst (All IsBelowCount) (sym c.loop-seat.invariant.same) c.requires) c.loop-seat.seat-index _ c.seat-item.result (omega arith) refl

pub returns-in_err-save-clause-same : goal.returns-in_err-save-clause-same
returns-in_err-save-clause-same g c = map-set_same (λ seat. whose seat.shard.memory) c.loop-seat.seats c.loop-seat.seat-index c.save.new.self _ c.in_err-save.ensures.same ∙ c.loop-seat.invariant.same

-- one shard more is saved
pub loop-seat-preserved : goal.loop-seat-preserved
loop-seat-preserved g c =
    let seats = c.loop-seat.seats in
    let i = c.loop-seat.seat-index in
    let d = c.seat-item.result in
    let seat = get_or seats i d in
    let new = c.save.new.self in
    let here : i < length seats = omega arith in
    let done = c.in_ok-save.ensures in
    let whole = c.loop-seat.invariant.gone.0 in
    record {
      gone = (
        whole ++ c.in_ok-save.field-0 ∷ [],
        subst (λ l. HaveGone (IsSaved ⊥) (whole ++ c.in_ok-save.field-0 ∷ []) (i + 1) (map (λ seat. shard_held seat.shard) c.args.seats.now) l) (sym (map-set (λ seat. shard_held seat.shard) seats i new))
            (one_gone (IsSaved ⊥) whole i (map (λ seat. shard_held seat.shard) c.args.seats.now) (map (λ seat. shard_held seat.shard) seats) c.in_ok-save.field-0 (shard_held seat.shard) (shard_held new.shard)
            c.loop-seat.invariant.gone.1 (held_here (λ seat. shard_held seat.shard) seats i seat d here refl) (held_here (λ seat. shard_held seat.shard) c.args.seats.now i (get_or c.args.seats.now i d) d c.loop-seat-test.true refl) (held_at (λ seat. shard_held seat.shard) seats i seat d here refl) done.saved),
      );
      same = map-set_same (λ seat. whose seat.shard.memory) seats i new d done.same ∙ c.loop-seat.invariant.same;
    }
