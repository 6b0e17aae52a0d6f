use Rattle.std.proofs.Common.{◌∙◌, ap}
use Rattle.ing_refusals.specs.Results.{◌>>=◌}
use Rattle.ing_commands.specs.Commands.{command_of, said_by}
use Rattle.ing_session.proofs.ObeyLaws.{obeys_fault}
use Rattle.ing_session.proofs.answer.reply_to.Goals as goal

-- the line has no value
pub returns-in-Err-clause-obeyed : goal.returns-in-Err-clause-obeyed
returns-in-Err-clause-obeyed g c =
    let service = c.args.service.now in
    obeys_fault g.C.Service.manner (g.C.Service.settings_of service) (g.C.Service.holds service) (command_of c.args.line.now) (g.C.Service.failures c.args.end.now) c.in-Err.fault c.fault_reply.result
    c.fault_reply.ensures.memory (λ other. ap (λ r. r >>= said_by) (c.in-Err.ensures other)) c.fault_reply.ensures.reply

-- the value is no command
pub returns-clause-obeyed : goal.returns-clause-obeyed
returns-clause-obeyed g c =
    let service = c.args.service.now in
    obeys_fault g.C.Service.manner (g.C.Service.settings_of service) (g.C.Service.holds service) (command_of c.args.line.now) (g.C.Service.failures c.args.end.now) c.in-Err-command_of.fault c.fault_reply-in-Err-command_of.result
    c.fault_reply-in-Err-command_of.ensures.memory (λ other. ap (λ r. r >>= said_by) c.in-Ok.ensures ∙ c.in-Err-command_of.ensures other) c.fault_reply-in-Err-command_of.ensures.reply
