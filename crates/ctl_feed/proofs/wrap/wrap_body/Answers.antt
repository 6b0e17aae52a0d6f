use Rattle.std.proofs.Common.{◌<◌, ◌≤◌, length, sym, arith}
use Rattle.std.proofs.lemmas.Result.{err_from_is_err_and}
use Rattle.serde_json.specs.View.{view}
use Rattle.ing_commands.specs.Views.{command_view}
use Rattle.ctl_feed.proofs.WrapLaws.{line_says, refused_so}
use Rattle.ctl_feed.specs.declared.wrap.TheConstants.{MAX_LINE}
use Rattle.ctl_feed.proofs.wrap.wrap_body.Goals as goal

pub returns-in_err-command_of-clause-refused : goal.returns-in_err-command_of-clause-refused
returns-in_err-command_of-clause-refused c =
    let p = err_from_is_err_and c.from_residual-in_err-command_of.result c.from_residual-in_err-command_of.ensures.1 in
    rw (p.1, p.2) (refused_so c.args.tenant.now c.args.now c.args.body.now (view c.in_ok-value.value) (view c.in-Some.streams) (view c.in_ok-command.command) c.in_err-command_of.field-0.0
    c.in_ok-value.ensures (sym c.in-Some.ensures) c.in_ok-command.ensures c.in_err-command_of.ensures)

pub returns-then-len-gt-MAX_LINE-clause-too_long :
    goal.returns-then-len-gt-MAX_LINE-clause-too_long
returns-then-len-gt-MAX_LINE-clause-too_long c =
    let said = line_says c.args.tenant.now c.args.now c.args.body.now (view c.in_ok-value.value) (view c.in-Some.streams) (view c.in_ok-command.command) (command_view c.in_ok-command_of.field-0)
    c.in_ok-line.line.items c.in_ok-value.ensures (sym c.in-Some.ensures) c.in_ok-command.ensures c.in_ok-command_of.ensures c.in_ok-line.ensures.compact c.in_ok-line.ensures.utf8 c.in_ok-line.ensures.reads_back in
    let long : MAX_LINE < length c.in_ok-line.line.items = omega (arith, c.in_ok-line.line.ok) in
    λ same. (c.in_ok-line.line.items, said.0, said.1, said.2, c.in_ok-line.ensures.compact, long)

pub returns-clause-wrapped : goal.returns-clause-wrapped
returns-clause-wrapped c =
    let said = line_says c.args.tenant.now c.args.now c.args.body.now (view c.in_ok-value.value) (view c.in-Some.streams) (view c.in_ok-command.command) (command_view c.in_ok-command_of.field-0)
    c.in_ok-line.line.items c.in_ok-value.ensures (sym c.in-Some.ensures) c.in_ok-command.ensures c.in_ok-command_of.ensures c.in_ok-line.ensures.compact c.in_ok-line.ensures.utf8 c.in_ok-line.ensures.reads_back in
    let short : length c.in_ok-line.line.items ≤ MAX_LINE = omega (arith, c.in_ok-line.line.ok) in
    (said.0, said.1, said.2, short)
