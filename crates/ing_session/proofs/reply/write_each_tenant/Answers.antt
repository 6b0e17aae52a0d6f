use Rattle.std.proofs.Common.{append_assoc}
use Rattle.ing_rows.specs.declared.gauges.Gauge.{Gauge}
use Rattle.ing_rows.specs.declared.gauges.Gauges.{Gauges}
use Rattle.ing_session.specs.Replies.{tenant_data}
use Rattle.ing_session.proofs.WritingLaws.{each_taken}
use Rattle.ing_session.proofs.reply.write_each_tenant.Goals as goal

abbrev no_gauges : Gauges
no_gauges = let none : Gauge = record { entries = 0; bytes = 0 } in record { head = none; block = none; flight = none; stored = none; streams = 0 }

pub loop-of_shard-preserved : goal.loop-of_shard-preserved
loop-of_shard-preserved c = record {
  tokens = rw (c.in_ok-write_tenant.ensures.tokens, c.loop-of_shard.invariant.tokens, each_taken tenant_data c.args.gauges.now c.loop-of_shard.of_shard-index no_gauges c.loop-of_shard-test.true) (simp append_assoc);
  before = cc;
}
