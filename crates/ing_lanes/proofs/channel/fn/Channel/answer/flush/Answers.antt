use Rattle.std.proofs.Common.{arith, refl}
use Rattle.ing_lanes.specs.Counted.{counted_by}
use Rattle.ing_lanes.proofs.HeldLaws.{held_least, rises_same}
use Rattle.ing_lanes.proofs.channel.fn.Channel.answer.flush.Goals as goal

-- the end by which queries read is left alone
pub returns : goal.returns
returns g c =
    let old = c.args.lane.now in
    let new = c.flush.new.self in
    record {
      obeyed = c.flush.ensures.obeyed (g.S.StoreEnd.failure_count c.args.end.now);
      left = λ held is. held_least old.pusher new.pusher (counted_by old.workers.items) (counted_by new.workers.items) old.board held (rises_same old.pusher new.pusher c.flush.ensures.pusher) c.flush.ensures.risen is;
      settings = refl;
      end = (omega arith, λ sure. (sure, refl));
    }
