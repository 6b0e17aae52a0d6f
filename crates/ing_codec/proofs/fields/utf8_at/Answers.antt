use Rattle.std.proofs.Common.{Ok, ap, ◌∙◌, sym}
use Rattle.ing_codec.proofs.Texts.{utf8_read, utf8_refused}
use Rattle.ing_codec.proofs.fields.utf8_at.Goals as goal

pub returns-in-Ok : goal.returns-in-Ok
returns-in-Ok c =
    let h = c.in-Ok.ensures.cases in
    utf8_read _ _ h.1 ∙ ap Ok (sym h.0)

pub returns-in-Err : goal.returns-in-Err
returns-in-Err c =
    let h = c.in-Err.ensures.cases in
    utf8_refused _ _ (λ u. absurd (h.0 u))
