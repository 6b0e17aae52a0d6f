use Rattle.std.proofs.Common.{◌∙◌, ap, map, subst}
use Rattle.ing_service.specs.Ends.{failures_in}
use Rattle.ing_service.specs.Flushes.{IsFlushed}
use Rattle.ing_service.specs.Held.{held_in, shard_held}
use Rattle.ing_commands.specs.Views.{flush_view}
use Rattle.ing_service.proofs.ObeyLaws.{obeys_flush}
use Rattle.ing_service.proofs.owned.OwnShards.flush.Goals.{then-flush+in_ok-sealed, else-flush}
use Rattle.ing_service.proofs.owned.OwnShards.flush.Goals as goal

pub returns-clause-obeyed : goal.returns-clause-obeyed
returns-clause-obeyed g c =
    let settings = c.args.self.now.settings in
    let before = failures_in g.S.StoreEnd.failure_count c.args.ends.now in
    let after = failures_in g.S.StoreEnd.failure_count c.work_off.new.ends in
    let uploads = c.in_ok-uploads.uploads in
    let flush = flush_view c.args.flush in
    let old = held_in (map (λ seat. shard_held seat.shard) c.args.self.now.seats.items) c.args.self.now.ops.items in
    let mid = held_in (map (λ seat. shard_held seat.shard) c.if-flush.self.seats.items) c.if-flush.self.ops.items in
    let new = held_in (map (λ seat. shard_held seat.shard) c.work_off.new.self.seats.items) c.work_off.new.self.ops.items in
    let worked = c.in_ok-uploads.ensures.flushed in
    let obeyed = obeys_flush g.S.StoreEnd.is_honest g.N.Beginning.begun settings old new flush c.if-flush.sealed mid before after uploads.failed uploads.stored in
    elim c.if-flush.branch [
      | then-flush+in_ok-sealed w ↦
          obeyed (rw (w.if-flush.true, w.sealed-is, w.self-is) w.in_ok-sealed.ensures.seals)
          (subst (λ s. IsFlushed g.N.Beginning.begun.logged s mid.ops mid.shards new.shards before after uploads.failed uploads.stored) (ap (λ s. s.settings) w.self-is ∙ w.in_ok-sealed.ensures.settings) worked) c.in_ok-uploads.ensures.ops
      | else-flush w ↦
          obeyed (rw w.if-flush.false (w.sealed-is, ap (λ s. held_in (map (λ seat. shard_held seat.shard) s.seats.items) s.ops.items) w.self-is))
          (subst (λ s. IsFlushed g.N.Beginning.begun.logged s mid.ops mid.shards new.shards before after uploads.failed uploads.stored) (ap (λ s. s.settings) w.self-is) worked) c.in_ok-uploads.ensures.ops
    ]
