use Rattle.std.proofs.Common.{◌∙◌, ◌++◌, arith, map}
use Rattle.ing_limits.specs.Ranges.{rules_for}
use Rattle.ing_service.specs.Flushes.{failed_among}
use Rattle.ing_service.specs.Held.{shard_held}
use Rattle.ing_session.proofs.CausesLaws.{causes_more, goes_on}
use Rattle.ing_service.specs.Ends.{NeverFail, failures_in}
use Rattle.ing_service.specs.Flushes.{failed_by, stored_by}
use Rattle.std.proofs.lemmas.List.Sums.{sum_by-append}
use Rattle.ing_service.proofs.FlightsLaws.{chunks_then}
use Rattle.ing_service.proofs.FlushLaws.{settle_then}
use Rattle.ing_service.proofs.flights.settle_all.Goals as goal

-- one round more is settled
pub loop-alloc-preserved : goal.loop-alloc-preserved
loop-alloc-preserved g c =
    let failures = failures_in g.S.StoreEnd.failure_count in
    let inv = c.loop-alloc.invariant in
    let said = c.in-Ok.ensures in
    record {
      settles = λ settings are.
          let so_far = inv.settles settings are in
          let round = said.settles settings (inv.same ∙ are) in
          let failed = sum_by-append failed_by so_far.0 round.0 in
          let stored = sum_by-append stored_by so_far.0 round.0 in (
            so_far.0 ++ round.0,
            settle_then (rules_for settings) so_far.0 round.0 (map (λ seat. shard_held seat.shard) c.args.seats.now) (map (λ seat. shard_held seat.shard) c.loop-alloc.seats) (map (λ seat. shard_held seat.shard) c.settle_round.new.seats) so_far.1 round.1,
            chunks_then (λ t. t.claimed) so_far.0 round.0 c.loop-alloc.tickets.items c.settle_round.new.tickets.items _ so_far.2 round.2,
            omega (arith, so_far.3, round.3, failed),
            omega (arith, so_far.4, round.4, stored),
            rw failed (causes_more (failures c.args.ends.now) (failures c.loop-alloc.ends) (failures c.settle_round.new.ends) (failed_among so_far.0) (failed_among round.0) so_far.5 round.5),
          );
      few = omega (arith, inv.few, said.fewer);
      lent = said.lent;
      fly = said.fly;
      apart = said.apart;
      same = said.same ∙ inv.same;
      end = goes_on (NeverFail g.S.StoreEnd.never_fails) failures c.args.ends.now c.loop-alloc.ends c.settle_round.new.ends inv.end said.end;
    }

pub returns-in-Err-clause-end : goal.returns-in-Err-clause-end
returns-in-Err-clause-end g c =
    goes_on (NeverFail g.S.StoreEnd.never_fails) (failures_in g.S.StoreEnd.failure_count) c.args.ends.now c.loop-alloc.ends c.settle_round.new.ends c.loop-alloc.invariant.end c.settle_round.ensures.end
