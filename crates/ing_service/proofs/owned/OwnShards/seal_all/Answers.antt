use Rattle.std.proofs.Common.{◌≡◌, ◌++◌, ◌∙◌, ◌<◌, ap, arith, drop, length, map, subst, sym, take}
use Rattle.std.specs.Prelude.{All, is_ok}
use Rattle.std.proofs.lemmas.List.{length-map}
use Rattle.ing_durable.specs.Kept.{whose}
use Rattle.ing_durable.specs.Op.{Op}
use Rattle.ing_rows.specs.Events.{SealAll}
use Rattle.ing_service.specs.ByShards.{SealEach}
use Rattle.ing_service.specs.Held.{AreShardsOf, shard_held}
use Rattle.ing_service.proofs.EachLaws.{written_back}
use Rattle.ing_service.proofs.SealLaws.{ops_there, still_there}
use Rattle.ing_service.proofs.WhoseLaws.{how_many}
use Rattle.ing_service.proofs.owned.OwnShards.seal_all.Goals as goal

pub returns-clause-seals : goal.returns-clause-seals
returns-clause-seals g c =
    let own = c.args.self.now in
    let settings = own.settings in
    let all = c.in_ok-all.all in
    let value = c.deref_mut.ensures.value in
    let new = c.seal_each.new.seats in
    let back : take own.seats.len (new ++ drop (length new) own.seats.items) ≡ new = written_back own.seats.len own.seats.items new own.seats.ok.0 (c.seal_each.auto.seats ∙ ap length value) in
    record {
      ops = all.ops.items;
      seals = subst (λ l. SealEach settings SealAll all.sealed all.ops.items (map (λ seat. shard_held seat.shard) own.seats.items) (map (λ seat. shard_held seat.shard) l)) (sym back)
          (subst (λ l. SealEach settings SealAll all.sealed all.ops.items (map (λ seat. shard_held seat.shard) l) (map (λ seat. shard_held seat.shard) new)) value
          (c.in_ok-all.ensures.seals settings (subst (λ l. AreShardsOf settings (map (λ seat. whose seat.shard.memory) l)) (sym value) own.shards)));
      queued = c.in_ok-extend_from_slice.ensures.items ∙ ap (λ more. own.ops.items ++ more) c.deref.ensures.value;
    }

-- no shard has become another
pub invariant_of-self-2-clause-shards : goal.invariant_of-self-2-clause-shards
invariant_of-self-2-clause-shards g c =
    let own = c.args.self.now in
    let value = c.deref_mut.ensures.value in
    let new = c.seal_each.new.seats in
    ap (map (λ seat. whose seat.shard.memory)) (written_back own.seats.len own.seats.items new own.seats.ok.0 (c.seal_each.auto.seats ∙ ap length value)) ∙ c.seal_each.ensures.same ∙ ap (map (λ seat. whose seat.shard.memory)) value ∙ own.shards

-- what is queued is of shards that there are
pub invariant_of-self-2-clause-there : goal.invariant_of-self-2-clause-there
invariant_of-self-2-clause-there g c =
    let own = c.args.self.now in
    let settings = own.settings in
    let value = c.deref_mut.ensures.value in
    let new = c.seal_each.new.seats in
    let P = λ (o : Op). o.shard < settings.shards in
    let are : AreShardsOf settings (map (λ seat. whose seat.shard.memory) new) = c.seal_each.ensures.same ∙ ap (map (λ seat. whose seat.shard.memory)) value ∙ own.shards in
    let seals = c.in_ok-all.ensures.seals settings (subst (λ l. AreShardsOf settings (map (λ seat. whose seat.shard.memory) l)) (sym value) own.shards) in
    let many = how_many (λ seat. whose seat.shard.memory) settings new are in
    let due = ops_there settings.shards 0 (map (λ seat. shard_held seat.shard) new) (omega (arith, many, length-map new (λ seat. shard_held seat.shard))) in
    subst (All P) (sym c.extend_from_slice.ensures.items)
    (still_there settings.shards (is_ok c.extend_from_slice.result) own.ops.items c.deref.result.now own.there (subst (All P) (sym (c.deref.ensures.value ∙ seals.there)) due))
