use Rattle.std.proofs.Common.{◌≡◌, ◌++◌, ◌∙◌, ap, drop, false, inl, inr, length, map, not, subst, sym, take, true}
use Rattle.std.proofs.lemmas.Result.{on_ok_weaker}
use Rattle.std.specs.Prelude.{◌⊎◌, All}
use Rattle.ing_durable.specs.Kept.{whose}
use Rattle.ing_service.specs.Flushes.{IsSaved}
use Rattle.ing_service.specs.Each.{Each}
use Rattle.ing_service.specs.Held.{IsBelowCount, ShardHeld, shard_held}
use Rattle.ing_service.proofs.EachLaws.{each_weaker, written_back}
use Rattle.ing_service.proofs.FlushLaws.{none_saved}
use Rattle.ing_service.proofs.WhoseLaws.{below_count}
use Rattle.ing_service.proofs.owned.OwnShards.save_stored.Goals as goal

-- nothing is to be saved
pub returns-then-not-self-clause-saved : goal.returns-then-not-self-clause-saved
returns-then-not-self-clause-saved g c =
    let held = map (λ seat. shard_held seat.shard) c.args.self.now.seats.items in
    (map (λ (shard : ShardHeld). not shard.torn) held, none_saved _ held)

pub save_each-requires : goal.save_each-requires
save_each-requires g c = subst (λ l. All IsBelowCount (map (λ seat. whose seat.shard.memory) l)) (sym c.deref_mut.ensures.value) (below_count (λ seat. whose seat.shard.memory) c.args.self.now.settings c.args.self.now.seats.items c.args.self.now.shards)

pub invariant_of-self-clause-shards : goal.invariant_of-self-clause-shards
invariant_of-self-clause-shards g c =
    let own = c.args.self.now in
    let value = c.deref_mut.ensures.value in
    let new = c.save_each.new.seats in
    ap (map (λ seat. whose seat.shard.memory)) (written_back own.seats.len own.seats.items new own.seats.ok.0 (c.save_each.auto.seats ∙ ap length value)) ∙ c.save_each.ensures.same ∙ ap (map (λ seat. whose seat.shard.memory)) value ∙ own.shards

pub returns-clause-saved : goal.returns-clause-saved
returns-clause-saved g c =
    let own = c.args.self.now in
    let value = c.deref_mut.ensures.value in
    let new = c.save_each.new.seats in
    let Nothing = (g.N.Beginning.begun.logged ≡ false) ⊎ (c.args.stored ≡ 0) in
    let back : take own.seats.len (new ++ drop (length new) own.seats.items) ≡ new = written_back own.seats.len own.seats.items new own.seats.ok.0 (c.save_each.auto.seats ∙ ap length value) in
    let something : Nothing → ⊥ = λ nothing. elim nothing [ inl unlogged ↦ (let no : true ≡ false = sym c.if-not-self.false ∙ own.logged ∙ unlogged in absurd cc) | inr zero ↦ c.if-stored-eq0.false zero ] in
    on_ok_weaker c.save_each.result
    (λ saved. (
      saved.0,
      subst (λ l. Each (IsSaved Nothing) saved.0 (map (λ seat. shard_held seat.shard) own.seats.items) (map (λ seat. shard_held seat.shard) l)) (sym back)
          (subst (λ l. Each (IsSaved Nothing) saved.0 (map (λ seat. shard_held seat.shard) l) (map (λ seat. shard_held seat.shard) new)) value
          (each_weaker (IsSaved ⊥) (IsSaved Nothing) saved.0 (map (λ seat. shard_held seat.shard) c.deref_mut.result.now) (map (λ seat. shard_held seat.shard) new)
          (λ whole old new is. record { told = is.told; listed = is.listed; state = is.state; kept = is.kept; left = λ nothing. absurd (something nothing) }) saved.1)),
    ))
    c.save_each.ensures.saved
