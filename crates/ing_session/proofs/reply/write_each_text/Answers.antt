use Rattle.std.proofs.Common.{append_assoc, sym}
use Rattle.ing_session.specs.Views.{text_data}
use Rattle.ing_session.proofs.WritingLaws.{each_taken}
use Rattle.ing_session.proofs.reply.write_each_text.Goals as goal

pub loop-text-preserved : goal.loop-text-preserved
loop-text-preserved c = record {
  tokens = rw (c.in_ok-string.ensures.ok, c.as_str.ensures.value, c.loop-text.invariant.tokens, each_taken text_data c.args.texts.now c.loop-text.text-index c.text-item.result c.loop-text-test.true, sym c.text-item.is) (simp append_assoc);
  before = cc;
}
