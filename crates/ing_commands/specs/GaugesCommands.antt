-- The command that asks for the gauges of a tenant: its shape, its fault, and what it says.
use Rattle.std.specs.Prelude.{ℕ, List, codes, if◌then◌else◌, Result, Ok, Err}
use Rattle.serde_json.specs.Data.{Data}
use Rattle.ing_refusals.specs.Results.{◌>>=◌}
use Rattle.ing_rows.specs.Texts.{is_tenant}
use Rattle.ing_commands.specs.declared.fault.LineFault.{LineFault}
use Rattle.ing_commands.specs.declared.fault.LineFault.TheVariants.{BadTenant}
use Rattle.ing_commands.specs.Shapes.{text_at}

-- the gauges of this tenant are asked for
pub record GaugesCommand : Type 0 where
  pub tenant : List ℕ

abbrev pub gauges_for : List ℕ → Result GaugesCommand LineFault
gauges_for tenant = if is_tenant tenant then Ok (record { tenant = tenant }) else Err BadTenant

-- what a value with this command says
unfoldable pub gauges_of : Data → Result GaugesCommand LineFault
gauges_of d = do
  tenant ← text_at (codes "tenant") d
  gauges_for tenant
