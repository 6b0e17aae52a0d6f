use Rattle.std.proofs.Common.{append_assoc, false}
use Rattle.serde_json.specs.Data.{boolean}
use Rattle.ing_session.proofs.WritingLaws.{each_taken}
use Rattle.ing_session.proofs.reply.write_each_boolean.Goals as goal

pub loop-is_so-preserved : goal.loop-is_so-preserved
loop-is_so-preserved c = record {
  tokens = rw (c.in_ok-boolean.ensures.ok, c.loop-is_so.invariant.tokens, each_taken boolean c.args.booleans.now c.loop-is_so.is_so-index false c.loop-is_so-test.true) (simp append_assoc);
  before = cc;
}
