use Rattle.std.proofs.Common.{◌≡◌, ◌++◌, ◌∙◌, ◌<◌, ap, drop, false, length, map, subst, sym, take}
use Rattle.std.specs.Prelude.{◌⊎◌, All}
use Rattle.ing_durable.specs.Kept.{whose}
use Rattle.ing_durable.specs.Op.{Op}
use Rattle.ing_limits.specs.Ranges.{rules_for}
use Rattle.ing_session.specs.Causes.{HaveCause}
use Rattle.ing_service.specs.Each.{Each}
use Rattle.ing_service.specs.Ends.{failures_in}
use Rattle.ing_service.specs.Flushes.{IsSaved, Works}
use Rattle.ing_service.specs.Held.{AreShardsOf, shard_held}
use Rattle.ing_service.proofs.EachLaws.{written_back}
use Rattle.ing_service.proofs.WhoseLaws.{how_many}
use Rattle.ing_service.proofs.owned.OwnShards.work_off.Goals as goal

pub returns-clause-flushed : goal.returns-clause-flushed
returns-clause-flushed g c =
    let own = c.args.self.now in
    let logged = g.N.Beginning.begun.logged in
    let value = c.deref_mut.ensures.value in
    let new = c.work_off.new.seats in
    let back : take own.seats.len (new ++ drop (length new) own.seats.items) ≡ new = written_back own.seats.len own.seats.items new own.seats.ok.0 (c.work_off.auto.seats ∙ ap length value) in
    let ops = c.deref.ensures.value ∙ ap (λ v. v.items) c.replace-ops.ensures.value in
    let flushed = c.in_ok-uploads.ensures.works own.settings (subst (λ l. AreShardsOf own.settings (map (λ seat. whose seat.shard.memory) l)) (sym value) own.shards) in
    let saved = c.in_ok-save_stored.ensures.saved in
    let last = map (λ seat. shard_held seat.shard) c.save_stored.new.self.seats.items in
    record {
      settled = flushed.0;
      works = record {
        mid = map (λ seat. shard_held seat.shard) new;
        works = subst (λ l. Works (rules_for own.settings) own.ops.items flushed.0 (map (λ seat. shard_held seat.shard) l) (map (λ seat. shard_held seat.shard) new)) value
            (subst (λ l. Works (rules_for own.settings) l flushed.0 (map (λ seat. shard_held seat.shard) c.deref_mut.result.now) (map (λ seat. shard_held seat.shard) new)) ops flushed.1);
        whole = saved.0;
        saved = subst (λ n. Each (IsSaved ((logged ≡ false) ⊎ (n ≡ 0))) saved.0 (map (λ seat. shard_held seat.shard) new) last) flushed.3
            (subst (λ l. Each (IsSaved ((logged ≡ false) ⊎ (c.in_ok-uploads.uploads.stored ≡ 0))) saved.0 (map (λ seat. shard_held seat.shard) l) last) back saved.1);
      };
      failures = flushed.2;
      successes = flushed.3;
      causes = subst (HaveCause (failures_in g.S.StoreEnd.failure_count c.args.ends.now) (failures_in g.S.StoreEnd.failure_count c.work_off.new.ends)) (sym flushed.2) flushed.4;
    }

-- each is of a shard that there is
pub work_off-requires-clause-ops : goal.work_off-requires-clause-ops
work_off-requires-clause-ops g c = λ κs lives.
    let own = c.args.self.now in
    let many = how_many (λ seat. whose seat.shard.memory) own.settings own.seats.items own.shards in
    subst (All (λ (o : Op). o.shard < length c.deref_mut.result.now)) (sym (c.deref.ensures.value ∙ ap (λ v. v.items) c.replace-ops.ensures.value))
    (subst (λ n. All (λ (o : Op). o.shard < n) own.ops.items) (sym many ∙ ap length (sym c.deref_mut.ensures.value)) own.there)

pub work_off-requires-clause-shards : goal.work_off-requires-clause-shards
work_off-requires-clause-shards g c = λ κs lives.
    let own = c.args.self.now in
    (own.settings, subst (λ l. AreShardsOf own.settings (map (λ seat. whose seat.shard.memory) l)) (sym c.deref_mut.ensures.value) own.shards)
