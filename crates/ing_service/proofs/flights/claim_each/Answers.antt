use Rattle.std.proofs.Common.{◌∙◌, ◌≤◌, ◌++◌, ◌∷◌, [], ap, arith, length, map, subst, sym}
use Rattle.std.specs.Prelude.{option_to_list}
use Rattle.std.proofs.lemmas.List.{length-map, take_all}
use Rattle.ing_service.specs.Flushes.{ClaimEach}
use Rattle.ing_limits.specs.Ranges.{rules_for}
use Rattle.ing_durable.specs.Kept.{whose}
use Rattle.ing_service.specs.Held.{shard_held}
use Rattle.ing_service.proofs.FlushLaws.{claim_next, claimed_more, went_well}
use Rattle.ing_service.proofs.flights.claim_each.Goals as goal

-- one operation more has claimed
pub loop-op-preserved : goal.loop-op-preserved
loop-op-preserved g c =
    let inv = c.loop-op.invariant in
    let ops = c.args.ops.now in
    let i = c.loop-op.op-index in
    let op = c.op-item.result in
    let news = c.claim_one.new.seats in
    let well = c.if-is_err.ensures.value in
    record {
      claims = λ settings are.
          let so_far = inv.claims settings are in
          let one = went_well c.claim_one.result (c.claim_one.ensures.claims settings (inv.same ∙ are)) well in (
            so_far.0 ++ one.0 ∷ [],
            claim_next (rules_for settings) ops i op so_far.0 one.0 (map (λ seat. shard_held seat.shard) c.args.seats.now) (map (λ seat. shard_held seat.shard) c.loop-op.seats) (map (λ seat. shard_held seat.shard) news)
                c.op-item.is c.loop-op-test.true so_far.1 one.1,
            one.2 ∙ ap (λ l. l ++ option_to_list one.0) so_far.2 ∙ sym (claimed_more so_far.0 one.0),
          );
      lent = c.claim_one.ensures.lent;
      fly = went_well c.claim_one.result c.claim_one.ensures.fly well;
      apart = c.claim_one.ensures.apart;
      room = omega (arith, inv.room, c.claim_one.ensures.room.0);
      capacity = omega (arith, inv.capacity, c.claim_one.ensures.room.1);
      many = sym (length-map news (λ seat. whose seat.shard.memory)) ∙ ap length c.claim_one.ensures.same ∙ length-map c.loop-op.seats (λ seat. whose seat.shard.memory) ∙ inv.many;
      same = c.claim_one.ensures.same ∙ inv.same;
    }

pub claim_one-requires-clause-shards : goal.claim_one-requires-clause-shards
claim_one-requires-clause-shards g c = (c.requires.shards.0, c.loop-op.invariant.same ∙ c.requires.shards.1)

pub returns-clause-claims : goal.returns-clause-claims
returns-clause-claims g c = λ settings are.
    let so_far = c.loop-op.invariant.claims settings are in
    let olds = map (λ seat. shard_held seat.shard) c.args.seats.now in
    let news = map (λ seat. shard_held seat.shard) c.loop-op.seats in
    let many : length c.args.ops.now ≤ c.loop-op.op-index = omega (arith, c.loop-op-test.false) in
    (so_far.0, subst (λ l. ClaimEach (rules_for settings) l so_far.0 olds news) (take_all c.loop-op.op-index c.args.ops.now many) so_far.1, so_far.2)
