-- The command that flushes: its shape, and what it says.
use Rattle.std.specs.Prelude.{codes, Bool, true, Result, Ok}
use Rattle.serde_json.specs.Data.{Data}
use Rattle.ing_refusals.specs.Results.{◌>>=◌}
use Rattle.ing_commands.specs.declared.fault.LineFault.{LineFault}
use Rattle.ing_commands.specs.Shapes.{flag_at}

-- a flush, before which each growing chunk is sealed where it is forced
pub record FlushCommand : Type 0 where
  pub forced : Bool

-- what a value with this command says
unfoldable pub flush_of : Data → Result FlushCommand LineFault
flush_of d = do
  forced ← flag_at (codes "forced") true d
  Ok (record { forced = forced })
