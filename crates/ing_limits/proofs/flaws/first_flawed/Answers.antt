use Rattle.toml.specs.View.{table_view}
use Rattle.ing_limits.proofs.Least.{under_ok}
use Rattle.ing_limits.proofs.flaws.first_flawed.Goals as goal

pub returns : goal.returns
returns c = under_ok c.least_of_tenants.result c.args.flaw (table_view c.args.table.now) (table_view c.in-Some.tenants.now) _ _ c.in-Some.ensures c.in_ok-found.ensures c.in_ok-found-2.ensures c.least_of_tenants.ensures
