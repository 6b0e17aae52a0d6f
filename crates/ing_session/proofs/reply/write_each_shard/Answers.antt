use Rattle.std.proofs.Common.{append_assoc}
use Rattle.ing_session.specs.Replies.{shard_data}
use Rattle.ing_session.proofs.WritingLaws.{each_taken}
use Rattle.ing_session.proofs.reply.write_each_shard.Goals as goal

pub loop-shard-preserved : goal.loop-shard-preserved
loop-shard-preserved c = record {
  tokens = rw (c.in_ok-write_shard.ensures.tokens, c.loop-shard.invariant.tokens, each_taken shard_data c.args.shards.now c.loop-shard.shard-index (record { accepted = 0; recovered = 0; stored = 0; kept = 0 }) c.loop-shard-test.true) (simp append_assoc);
  before = cc;
}
