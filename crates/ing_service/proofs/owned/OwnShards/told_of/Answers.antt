use Rattle.std.proofs.Common.{◌≡◌, ◌<◌, ◌∙◌, ap, arith, get_or, length, map, not, subst, sym, true}
use Rattle.std.specs.Prelude.{IfSome}
use Rattle.std.proofs.lemmas.List.{get_or-map, length-map}
use Rattle.ing_durable.specs.Kept.{whose}
use Rattle.ing_service.specs.Drafts.{reply_if, torn_at}
use Rattle.ing_service.specs.Held.{ShardHeld, shard_held}
use Rattle.ing_service.proofs.DraftLaws.{twice}
use Rattle.ing_service.proofs.WhoseLaws.{how_many}
use Rattle.ing_service.proofs.owned.OwnShards.told_of.Goals as goal

-- there is a shard at the place
pub index-requires : goal.index-requires
index-requires g c =
    let own = c.args.self.now in
    let below : c.in-Some.place < own.settings.shards = subst (λ o. IfSome o (λ place. place < own.settings.shards)) c.in-Some.is c.requires in
    omega (arith, below, how_many (λ seat. whose seat.shard.memory) own.settings own.seats.items own.shards, own.seats.ok.0)

pub returns : goal.returns
returns g c =
    let own = c.args.self.now in
    let seats = own.seats.items in
    let place = c.in-Some.place in
    let seat = c.index.result.now in
    let below : place < own.settings.shards = subst (λ o. IfSome o (λ place. place < own.settings.shards)) c.in-Some.is c.requires in
    let here : place < length seats = omega (arith, below, how_many (λ seat. whose seat.shard.memory) own.settings seats own.shards) in
    let held = map (λ seat. shard_held seat.shard) seats in
    let torn : get_or (map (λ (shard : ShardHeld). shard.torn) held) place true ≡ seat.shard.torn =
    get_or-map (λ (shard : ShardHeld). shard.torn) held place (shard_held seat.shard) true (subst (λ n. place < n) (sym (length-map seats (λ seat. shard_held seat.shard))) here)
    ∙ ap (λ (shard : ShardHeld). shard.torn) (get_or-map (λ seat. shard_held seat.shard) seats place seat (shard_held seat.shard) here ∙ ap (λ seat. shard_held seat.shard) (sym c.index.ensures)) in
    c.told_durable-2.ensures ∙ ap (λ b. reply_if b c.args.draft.reply) (ap not c.is_durable-durable.ensures.torn ∙ twice seat.shard.torn ∙ sym torn ∙ ap (torn_at (map (λ (shard : ShardHeld). shard.torn) held)) (sym c.in-Some.is))
