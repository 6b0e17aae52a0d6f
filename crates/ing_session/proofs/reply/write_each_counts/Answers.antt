use Rattle.std.proofs.Common.{append_assoc}
use Rattle.ing_tally.specs.declared.counts.Counts.{Counts}
use Rattle.ing_session.specs.Replies.{counts_data}
use Rattle.ing_session.proofs.WritingLaws.{each_taken}
use Rattle.ing_session.proofs.reply.write_each_counts.Goals as goal

abbrev no_counts : Counts
no_counts = record { accepted = 0; stored = 0 }

pub loop-counts-preserved : goal.loop-counts-preserved
loop-counts-preserved c = record {
  tokens = rw (c.in_ok-write_counts.ensures.tokens, c.loop-counts.invariant.tokens, each_taken counts_data c.args.shards.now c.loop-counts.counts-index no_counts c.loop-counts-test.true) (simp append_assoc);
  before = cc;
}
