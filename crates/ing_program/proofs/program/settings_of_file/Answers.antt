use Rattle.std.proofs.Common.{◌≡◌, ◌∙◌, sym, ap, subst, Ok, Err}
use Rattle.std.specs.Prelude.{IfSome}
use Rattle.ing_limits.specs.Faults.{refusal_of}
use Rattle.ing_limits.specs.Settings.{settings_of}
use Rattle.ing_program.proofs.StartingLaws.{started_unread, started_text, refused_text}
use Rattle.ing_program.proofs.program.settings_of_file.Goals as goal

pub returns-in_default-clause-refused : goal.returns-in_default-clause-refused
returns-in_default-clause-refused c = started_unread c.args.file.now c.in_default.ensures.cases.0

pub returns-in_err-settings-clause-refused : goal.returns-in_err-settings-clause-refused
returns-in_err-settings-clause-refused c =
    let fault = c.in_err-settings.field-0.0 in
    let file = c.args.file.now in
    let refused = subst (λ text. IfSome (refusal_of fault) (λ refusal. settings_of text ≡ Err refusal)) c.in-Ok.ensures.cases.0 c.in_err-settings.ensures.refused in
    refused_text file fault c.from_residual.result c.in-Ok.ensures.cases.1 refused c.from_residual.ensures.1

pub returns-clause-settings : goal.returns-clause-settings
returns-clause-settings c =
    let settings = c.in_ok-settings.settings in
    started_text c.args.file.now (Ok settings) c.in-Ok.ensures.cases.1 (ap settings_of (sym c.in-Ok.ensures.cases.0) ∙ c.in_ok-settings.ensures.settings)
