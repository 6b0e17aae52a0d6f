use Rattle.std.proofs.Common.{◌∙◌, arith, map, reverse}
use Rattle.ing_program.proofs.OwnLaws.{first_own, taken_more}
use Rattle.ing_program.proofs.own.seats_of.Goals as goal

pub over-requires : goal.over-requires
over-requires g c =
    let own = (first_own c.loop-begun.last_first.items c.pop.new.self.items c.in-Some.begun c.in-Some.ensures.items c.loop-begun.invariant.own).0 in
    rw (c.into_recovered.ensures.shard, c.into_recovered.ensures.shares.0, c.into_recovered.ensures.shares.1) (record { accepted = own.0; stored = own.1 })

-- one more is taken
pub loop-begun-preserved : goal.loop-begun-preserved
loop-begun-preserved g c =
    let b = c.in-Some.begun in
    let bs = c.loop-begun.last_first.items in
    let rest = c.pop.new.self.items in
    record {
      so_far = taken_more (λ seat. seat.shard) (λ begun. begun.shard) c.loop-begun.seats.items c.push_reserved.new.self.items c.over.result bs rest b (map (λ begun. begun.shard) (reverse c.args.last_first.items))
          c.push_reserved.ensures.items c.in-Some.ensures.items (c.over.ensures ∙ c.into_recovered.ensures.shard) c.loop-begun.invariant.so_far;
      room = omega (arith, c.loop-begun.invariant.room, c.push_reserved.ensures.len, c.push_reserved.ensures.capacity, c.in-Some.ensures.len);
      own = (first_own bs rest b c.in-Some.ensures.items c.loop-begun.invariant.own).1;
    }
