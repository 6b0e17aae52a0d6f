use Rattle.std.proofs.Common.{append_assoc, sym}
use Rattle.ing_session.specs.Views.{stream_data}
use Rattle.ing_session.proofs.WritingLaws.{each_taken}
use Rattle.ing_session.proofs.reply.write_each_stream.Goals as goal

pub loop-stream-preserved : goal.loop-stream-preserved
loop-stream-preserved c = record {
  tokens = rw (c.in_ok-write_stream.ensures.tokens, c.loop-stream.invariant.tokens, each_taken stream_data c.args.streams.now c.loop-stream.stream-index c.stream-item.result c.loop-stream-test.true, sym c.stream-item.is) (simp append_assoc);
  before = cc;
}
