use Rattle.std.proofs.Common.{append_assoc}
use Rattle.ing_rows.specs.declared.verdict.Verdict.TheVariants.{Accepted}
use Rattle.ing_session.specs.Replies.{verdict_data}
use Rattle.ing_session.proofs.WritingLaws.{each_taken}
use Rattle.ing_session.proofs.reply.write_each_verdict.Goals as goal

pub loop-verdict-preserved : goal.loop-verdict-preserved
loop-verdict-preserved c = record {
  tokens = rw (c.in_ok-write_verdict.ensures.tokens, c.loop-verdict.invariant.tokens, each_taken verdict_data c.args.verdicts.now c.loop-verdict.verdict-index (Accepted 0) c.loop-verdict-test.true) (simp append_assoc);
  before = cc;
}
