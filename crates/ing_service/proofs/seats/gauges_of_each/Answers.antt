use Rattle.std.proofs.Common.{subst, sym}
use Rattle.ing_durable.specs.Contents.{Contents}
use Rattle.ing_rows.specs.Gauges.{gauges_of}
use Rattle.ing_rows.specs.Rows.{IsSame}
use Rattle.ing_service.specs.Held.{ShardHeld, shard_held}
use Rattle.ing_service.proofs.EachLaws.{told_more}
use Rattle.ing_service.proofs.FlushLaws.{same_refl}
use Rattle.ing_service.proofs.seats.gauges_of_each.Goals as goal

pub loop-seat-preserved : goal.loop-seat-preserved
loop-seat-preserved g c =
    let seat = c.seat-item.result in
    let state = seat.shard.memory.state in
    told_more (λ seat. shard_held seat.shard) c.args.seats.now c.loop-seat.seat-index seat seat c.loop-seat-test.true c.seat-item.is (λ (shard : ShardHeld). gauges_of shard.state.rows c.args.tenant.now)
    c.loop-seat.gauges.items c.push.new.self.items _ c.loop-seat.invariant c.in_ok-push.ensures.items
    (c.gauges.ensures.gauges state (subst (λ (m : Contents). IsSame m.state state) (sym c.memory.ensures) (same_refl state)))
