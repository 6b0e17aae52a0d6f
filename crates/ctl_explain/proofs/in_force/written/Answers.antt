use Rattle.std.proofs.Common.{Err, ap}
use Rattle.toml.specs.View.{table_view}
use Rattle.ctl_explain.proofs.Flawless.{settings_are_written}
use Rattle.ctl_explain.proofs.in_force.written.Goals as goal

pub unreachable-requires : goal.unreachable-requires
unreachable-requires c =
    let bad = c.in-Err-DateInvalid.ensures.dates.0 (ap (λ e. Err e) c.in-Err-DateInvalid.field-0-is) in
    absurd (cc (bad, (settings_are_written (table_view c.args.table.now) c.requires).1))

pub returns-in-Ok : goal.returns-in-Ok
returns-in-Ok c = c.in-Ok.ensures.reads_back (settings_are_written (table_view c.args.table.now) c.requires).0
