use Rattle.std.proofs.Common.{ap, ◌∙◌}
use Rattle.std.specs.Prelude.{option_and_then}
use Rattle.std.specs.Option.{unwrap_or}
use Rattle.toml.specs.Data.{as_bool}
use Rattle.toml.proofs.Views.{table_get}
use Rattle.ing_limits.proofs.settings.flag.Goals as goal

pub returns-in-None : goal.returns-in-None
returns-in-None c =
    let found = table_get c.get.result c.args.key.now c.args.table.now.entries c.get.ensures.value in
    ap (λ o. unwrap_or (option_and_then as_bool o) c.args.default) (rw c.in-None.is at found)

pub returns-in-Some : goal.returns-in-Some
returns-in-Some c =
    let found = table_get c.get.result c.args.key.now c.args.table.now.entries c.get.ensures.value in
    c.unwrap_or.ensures
    ∙ ap (λ o. unwrap_or o c.args.default) c.as_bool.ensures
    ∙ ap (λ o. unwrap_or (option_and_then as_bool o) c.args.default) (rw c.in-Some.is at found)
