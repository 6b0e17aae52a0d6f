use Rattle.std.proofs.Common.{append_assoc, sym}
use Rattle.ing_session.specs.Replies.{entry_data}
use Rattle.ing_session.proofs.WritingLaws.{each_taken}
use Rattle.ing_session.proofs.reply.write_each_entry.Goals as goal

pub loop-entry-preserved : goal.loop-entry-preserved
loop-entry-preserved c = record {
  tokens = rw (c.in_ok-write_entry.ensures.tokens, c.loop-entry.invariant.tokens, each_taken entry_data c.args.found.now c.loop-entry.entry-index c.entry-item.result c.loop-entry-test.true, sym c.entry-item.is) (simp append_assoc);
  before = cc;
}
