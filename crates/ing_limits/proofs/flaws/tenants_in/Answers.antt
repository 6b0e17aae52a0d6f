use Rattle.std.proofs.Common.{codes}
use Rattle.toml.specs.View.{table_view}
use Rattle.toml.proofs.Views.{table_get}
use Rattle.ing_limits.proofs.Least.{found_table, no_table}
use Rattle.ing_limits.proofs.flaws.tenants_in.Goals as goal

pub returns-in-Some : goal.returns-in-Some
returns-in-Some c =
    let found = table_get c.get.result (codes "tenants") c.args.table.now.entries c.get.ensures.value in
    found_table c.as_table.result _ (codes "tenants") (table_view c.args.table.now) (rw c.in-Some.is at found) c.as_table.ensures

pub returns-in-None : goal.returns-in-None
returns-in-None c =
    let found = table_get c.get.result (codes "tenants") c.args.table.now.entries c.get.ensures.value in
    no_table (codes "tenants") (table_view c.args.table.now) (rw c.in-None.is at found)
