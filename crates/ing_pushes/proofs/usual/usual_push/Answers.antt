use Rattle.std.proofs.Common.{◌≡◌, IfSome, Some, subst}
use Rattle.std.specs.Option.{option_and_then}
use Rattle.std.proofs.lemmas.Result.{IfOk-weaker}
use Rattle.std.proofs.lemmas.Str.{is_utf8-from_IsUtf8}
use Rattle.json.specs.Json as json
use Rattle.json.specs.Lex.{tokens}
use Rattle.json.specs.Value.{value_view}
use Rattle.ing_commands.specs.Views.{push_view}
use Rattle.ing_pushes.proofs.Read.{commanded, some_weaker}
use Rattle.ing_pushes.proofs.usual.usual_push.Goals as goal

pub returns : goal.returns
returns c =
    let line = c.args.line.now in
    let said = c.in-Ok.ensures.cases in
    let of_text = subst (λ o. IfSome o (λ v. option_and_then (λ p. json.if_last p.0 p.1) (json.value 127 (tokens c.in-Ok.text.now)) ≡ Some (value_view v))) c.in-Some.is c.in_ok-value.ensures in
    let of_line = subst (λ t. option_and_then (λ p. json.if_last p.0 p.1) (json.value 127 (tokens t)) ≡ Some (value_view c.in-Some.value)) said.0 of_text in
    IfOk-weaker c.push_in.result _ _ (λ found h. some_weaker _ _ found (λ push is. commanded line (value_view c.in-Some.value) (push_view push) (is_utf8-from_IsUtf8 line said.1) of_line is) h) c.push_in.ensures
