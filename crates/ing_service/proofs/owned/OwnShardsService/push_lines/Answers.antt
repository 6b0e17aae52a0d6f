use Rattle.std.proofs.Common.{◌≡◌, ◌∷◌, map, refl, subst, sym}
use Rattle.std.proofs.lemmas.Result.{IfOk-weaker}
use Rattle.ing_commands.specs.Views.{push_view}
use Rattle.ing_session.specs.PushLines.{rest_of}
use Rattle.ing_session.specs.Runs.{ObeysEach, PushesLines}
use Rattle.ing_session.specs.Views.{reply_data}
use Rattle.ing_service.specs.ByShards.{by_shards}
use Rattle.ing_service.specs.Held.{held_in, shard_held}
use Rattle.ing_service.proofs.ObeyLaws.{obeys_each}
use Rattle.ing_service.proofs.owned.OwnShardsService.push_lines.Goals as goal

pub returns-clause-obeyed : goal.returns-clause-obeyed
returns-clause-obeyed g c =
    let honest = g.S.StoreEnd.is_honest in
    let begun = g.N.Beginning.begun in
    let own = c.args.self.now in
    let new = c.push_all.new.self in
    let ops = own.ops.items in
    let olds = map (λ seat. shard_held seat.shard) own.seats.items in
    let news = map (λ seat. shard_held seat.shard) new.seats.items in
    let now = held_in news new.ops.items in
    let first = push_view c.args.first in
    let bytes = rest_of c.args.lines.now in
    let rest = rest_of c.push_all.new.lines in
    IfOk-weaker c.push_all.result _ _
    (λ replies does old is. subst (λ h. PushesLines (by_shards honest begun) own.settings first bytes rest h (λ left. left ≡ now) (map reply_data replies.items)) (sym is) (record {
      others = does.others;
      taken = does.taken;
      left = now;
      obeys = subst (λ queued. ObeysEach (by_shards honest begun) own.settings (first ∷ does.others) (held_in olds ops) (held_in news queued) (map reply_data replies.items)) (sym c.push_all.ensures.ops)
          (obeys_each honest begun own.settings ops (first ∷ does.others) olds news (map reply_data replies.items) does.each);
      holds = refl;
    }))
    c.push_all.ensures.pushes
