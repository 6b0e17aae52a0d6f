use Rattle.std.proofs.Common.{ap, ◌∙◌}
use Rattle.std.specs.Option.{unwrap_or}
use Rattle.toml.specs.View.{view, table_view}
use Rattle.toml.proofs.Views.{table_get}
use Rattle.ing_limits.proofs.Numbers.{absent, unknown, present}
use Rattle.ing_limits.proofs.settings.setting.Goals as goal

pub returns-in-None : goal.returns-in-None
returns-in-None c =
    let found = table_get c.get.result c.args.key.now c.args.table.now.entries c.get.ensures.value in
    absent c.args.level c.args.key.now c.args.default (table_view c.args.table.now) (rw c.in-None.is at found)

pub returns-in-Some-kind_of : goal.returns-in-Some-kind_of
returns-in-Some-kind_of c =
    let found = table_get c.get.result c.args.key.now c.args.table.now.entries c.get.ensures.value in
    c.unwrap_or.ensures
    ∙ ap (λ o. unwrap_or o c.args.default) c.number_of.ensures
    ∙ present c.args.level c.args.key.now c.args.default (table_view c.args.table.now) (view c.in-Some.value.now) c.in-Some-kind_of.kind (rw c.in-Some.is at found) c.in-Some-kind_of.ensures

pub returns-in-None-kind_of : goal.returns-in-None-kind_of
returns-in-None-kind_of c =
    let found = table_get c.get.result c.args.key.now c.args.table.now.entries c.get.ensures.value in
    unknown c.args.level c.args.key.now c.args.default (table_view c.args.table.now) (view c.in-Some.value.now) (rw c.in-Some.is at found) c.in-None-kind_of.ensures
