use Rattle.std.proofs.lemmas.Result.{err_from_is_err_and}
use Rattle.ing_codec.proofs.Texts.{no_tenant}
use Rattle.ing_codec.proofs.fields.tenant_of.Goals as goal

pub returns-in_err-text : goal.returns-in_err-text
returns-in_err-text c =
    let p = err_from_is_err_and c.from_residual.result c.from_residual.ensures.1 in
    let e = no_tenant c.args.at c.args.bytes.now c.in_err-text.field-0.0 c.in_err-text.ensures in
    rw (p.1, p.2) (λ _. e)
