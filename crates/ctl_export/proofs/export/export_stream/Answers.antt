use Rattle.std.proofs.Common.{ap}
use Rattle.std.specs.Prelude.{slice_get}
use Rattle.ing_rows.specs.Rows.{StreamKey}
use Rattle.ctl_export.proofs.ExportLaws.{exports}
use Rattle.ctl_export.proofs.export.export_stream.Goals as goal

pub returns-clause-exports : goal.returns-clause-exports
returns-clause-exports g c =
    let read = c.in_ok-read.read in
    let shard = c.args.shard.now in
    let s : StreamKey = record { tenant = read.tenant; name = read.name } in
    exports g.S.StoreEnd.is_honest shard.settings s shard.state.rows read.entries.items (g.W.Write.contents c.args.writer.now) (g.W.Write.contents c.write_stream.new.writer)
    c.write_stream.result (slice_get shard.listed c.args.number) _ c.in_ok-read.ensures.key (ap (λ rules. rules.max_entries_per_push) c.rules.ensures.rules) c.in_ok-read.ensures.all c.in_ok-read.ensures.in_order c.write_stream.ensures.writes
