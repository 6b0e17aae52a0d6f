use Rattle.std.proofs.Common.{append_assoc}
use Rattle.ing_session.specs.Replies.{count}
use Rattle.ing_session.proofs.WritingLaws.{each_taken}
use Rattle.ing_session.proofs.reply.write_each_front.Goals as goal

pub loop-front-preserved : goal.loop-front-preserved
loop-front-preserved c = record {
  tokens = rw (c.in_ok-u64.ensures.ok, c.loop-front.invariant.tokens, each_taken count c.args.fronts.now c.loop-front.front-index 0 c.loop-front-test.true) (simp append_assoc);
  before = cc;
}
