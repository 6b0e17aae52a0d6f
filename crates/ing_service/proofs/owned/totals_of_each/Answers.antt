use Rattle.std.proofs.Common.{ℕ, ap, length, subst, sym}
use Rattle.ing_durable.specs.Contents.{Contents}
use Rattle.ing_rows.specs.Rows.{IsSame}
use Rattle.ing_service.specs.Held.{ShardHeld, shard_held}
use Rattle.ing_service.proofs.EachLaws.{told_more}
use Rattle.ing_service.proofs.FlushLaws.{same_refl}
use Rattle.ing_service.proofs.owned.totals_of_each.Goals as goal

pub loop-seat-preserved : goal.loop-seat-preserved
loop-seat-preserved g c =
    let seat = c.seat-item.result in
    let state = seat.shard.memory.state in
    told_more (λ seat. shard_held seat.shard) c.args.seats.now c.loop-seat.seat-index seat seat c.loop-seat-test.true c.seat-item.is (λ (shard : ShardHeld). length shard.state.rows)
    c.loop-seat.totals.items c.push.new.self.items _ c.loop-seat.invariant c.in_ok-push.ensures.items
    (ap (λ (n : ℕ × ℕ). n.0) (c.totals.ensures.totals state (subst (λ (m : Contents). IsSame m.state state) (sym c.memory.ensures) (same_refl state))))
