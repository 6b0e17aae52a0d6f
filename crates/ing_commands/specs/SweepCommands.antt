-- The command that sweeps: its shape, its fault, and what it says.
use Rattle.std.specs.Prelude.{ℕ, codes, Result, Ok}
use Rattle.std.specs.Option.{ok_or}
use Rattle.serde_json.specs.Data.{Data}
use Rattle.ing_refusals.specs.Results.{◌>>=◌}
use Rattle.ing_rows.specs.Texts.{stamp_of}
use Rattle.ing_commands.specs.declared.fault.LineFault.{LineFault}
use Rattle.ing_commands.specs.declared.fault.LineFault.TheVariants.{BadStamp}
use Rattle.ing_commands.specs.Shapes.{text_at}

-- a sweep at this time in nanoseconds
pub record SweepCommand : Type 0 where
  pub now : ℕ

-- what a value with this command says
unfoldable pub sweep_of : Data → Result SweepCommand LineFault
sweep_of d = do
  text ← text_at (codes "now") d
  now ← ok_or (stamp_of text) BadStamp
  Ok (record { now = now })
