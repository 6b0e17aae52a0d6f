use Rattle.std.proofs.Common.{◌∙◌, All, ap, map, reverse, subst, sym}
use Rattle.std.proofs.lemmas.List.{reverse-reverse}
use Rattle.ing_service.specs.Flying.{FliesIn}
use Rattle.ing_service.specs.Held.{shard_held}
use Rattle.ing_service.proofs.FlightsLaws.{all_reversed}
use Rattle.ing_service.proofs.FlushLaws.{ok_weaker}
use Rattle.ing_service.proofs.flights.work_off.Goals as goal

pub returns-clause-works : goal.returns-clause-works
returns-clause-works g c = λ settings are.
    let claimed = c.in_ok-tickets.ensures.claims settings are in
    let order = ap (λ l. map (λ t. t.claimed) (reverse l)) c.reverse.ensures.items ∙ ap (map (λ t. t.claimed)) (reverse-reverse c.in_ok-tickets.tickets.items) in
    ok_weaker c.settle_all.result
    (λ told settled. (
      settled.0,
      record {
        claims = claimed.0;
        claimed = map (λ seat. shard_held seat.shard) c.claim_each.new.seats;
        each = claimed.1;
        all = settled.2 ∙ order ∙ claimed.2;
        settle = settled.1;
      },
      settled.3,
      settled.4,
      settled.5,
    ))
    (c.settle_all.ensures.settles settings (c.in_ok-tickets.ensures.same ∙ are))

pub settle_all-requires-clause-fly : goal.settle_all-requires-clause-fly
settle_all-requires-clause-fly g c κs within =
    subst (All (λ t. FliesIn (map (λ seat. seat.shard.memory) c.claim_each.new.seats) t.claimed)) (sym c.reverse.ensures.items)
    (all_reversed (λ t. FliesIn (map (λ seat. seat.shard.memory) c.claim_each.new.seats) t.claimed) c.in_ok-tickets.tickets.items c.in_ok-tickets.ensures.fly)
