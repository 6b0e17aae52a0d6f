-- What a line of input commands, or why it is refused. A command is a case here and a module beside PushCommands.
use Rattle.std.specs.Prelude.{ℕ, List, codes, bytes_eq, if◌then◌else◌, Result, Ok, Err}
use Rattle.std.specs.Option.{ok_or}
use Rattle.std.specs.Str.{is_utf8}
use Rattle.serde_json.specs.Data.{Data}
use Rattle.serde_json.specs.Read as json
use Rattle.ing_refusals.specs.Results.{◌>>=◌}
use Rattle.ing_commands.specs.declared.fault.LineFault.{LineFault}
use Rattle.ing_commands.specs.declared.fault.LineFault.TheVariants.{BadCommand}
use Rattle.ing_commands.specs.CatalogCommands.{CatalogCommand, labels_of, series_of}
use Rattle.ing_commands.specs.FlushCommands.{FlushCommand, flush_of}
use Rattle.ing_commands.specs.GaugesCommands.{GaugesCommand, gauges_of}
use Rattle.ing_commands.specs.PushCommands.{PushCommand, push_of}
use Rattle.ing_commands.specs.QueryCommands.{QueryCommand, query_of}
use Rattle.ing_commands.specs.Shapes.{text_at}
use Rattle.ing_commands.specs.SweepCommands.{SweepCommand, sweep_of}

pub data Command : Type 0 where
  Push : PushCommand → Command
  Sweep : SweepCommand → Command
  Flush : FlushCommand → Command
  Gauges : GaugesCommand → Command
  Board : Command
  Checkpoint : Command
  Query : QueryCommand → Command
  Catalog : CatalogCommand → Command

abbrev pub pushed : PushCommand → Result Command LineFault
pushed push = Ok (Push push)

abbrev pub swept : SweepCommand → Result Command LineFault
swept sweep = Ok (Sweep sweep)

abbrev pub flushed : FlushCommand → Result Command LineFault
flushed flush = Ok (Flush flush)

abbrev pub asked : GaugesCommand → Result Command LineFault
asked gauges = Ok (Gauges gauges)

abbrev pub queried : QueryCommand → Result Command LineFault
queried query = Ok (Query query)

abbrev pub listed : CatalogCommand → Result Command LineFault
listed catalog = Ok (Catalog catalog)

-- the JSON value of a line, which is UTF-8
abbrev pub data_of : List ℕ → Result Data LineFault
data_of line = if is_utf8 line then ok_or (json.read line) BadCommand else Err BadCommand

-- what a value with this command says
abbrev pub said_as : List ℕ → Data → Result Command LineFault
said_as cmd d =
    if bytes_eq cmd (codes "push") then push_of d >>= pushed
    else if bytes_eq cmd (codes "sweep") then sweep_of d >>= swept
    else if bytes_eq cmd (codes "flush") then flush_of d >>= flushed
    else if bytes_eq cmd (codes "gauges") then gauges_of d >>= asked
    else if bytes_eq cmd (codes "board") then Ok Board
    else if bytes_eq cmd (codes "checkpoint") then Ok Checkpoint
    else if bytes_eq cmd (codes "query") then query_of d >>= queried
    else if bytes_eq cmd (codes "series") then series_of d >>= listed
    else if bytes_eq cmd (codes "labels") then labels_of d >>= listed
    else Err BadCommand

-- what a value commands, by its member `cmd`
unfoldable pub said_by : Data → Result Command LineFault
said_by d = do
  cmd ← text_at (codes "cmd") d
  said_as cmd d

-- what a line commands
abbrev pub command_of : List ℕ → Result Command LineFault
command_of line = data_of line >>= said_by
