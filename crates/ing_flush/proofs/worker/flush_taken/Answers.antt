use Rattle.std.proofs.Common.{◌<◌, arith, length, subst, sym, ◌∙◌}
use Rattle.ing_flush.specs.Rounds.{HaveRisen}
use Rattle.ing_flush.proofs.RoundLaws.{one_risen}
use Rattle.ing_flush.proofs.worker.flush_taken.Goals as goal

pub returns-clause-stored : goal.returns-clause-stored
returns-clause-stored g c =
    let old = c.args.flusher.now.tally in
    let new = c.flush_one.new.flusher.tally in
    let below : c.args.op.now.shard < length old = omega (arith, c.if-op-shards.false, c.shards.ensures) in
    subst (λ n. HaveRisen n old new) (sym c.of_flush.ensures.stored)
    (one_risen c.flush_one.result c.args.op.now.shard old new (c.flush_one.ensures.all ∙ sym c.requires.all) below c.flush_one.ensures.flushed)
