use Rattle.serde_json.specs.View.{view}
use Rattle.ing_commands.proofs.CommandLaws.{data_read}
use Rattle.ctl_explain.proofs.explaining.json_cause.Goals as goal

pub unreachable-requires : goal.unreachable-requires
unreachable-requires c =
    let read = data_read c.args.line.now (view c.in-Ok.field-0) c.in-Ok.ensures.ok.0 c.in-Ok.ensures.ok.1 in
    absurd (cc (read, c.requires))
