-- What a clock says between the lines of an input, and what of it is known (own).
use Rattle.std.specs.Prelude.{◌≡◌, List, [], ◌∷◌, ◌++◌, false, Option, Some, None}
use Rattle.ing_commands.specs.Commands as commands
use Rattle.ing_commands.specs.Commands.{Command}
use Rattle.ing_session.specs.declared.ticks.Tick.{Tick}
use Rattle.ing_session.specs.declared.ticks.Tick.TheVariants.{Sweep, Flush, Checkpoint}

-- the same as a line would command it
abbrev pub command_of_tick : Tick → Command
command_of_tick (Sweep now) = commands.Sweep (record { now = now })
command_of_tick Flush = commands.Flush (record { forced = false })
command_of_tick Checkpoint = commands.Checkpoint

-- what is said at one time, which may be nothing
abbrev pub told_by : Option Tick → List Tick
told_by None = []
told_by (Some tick) = tick ∷ []

-- What is known of what a clock has said, before it says this and then; where nothing is known, nothing is known then.
abbrev pub GoesOnSaying : Option (List Tick) → Option (List Tick) → Option Tick → Type 0
GoesOnSaying None new tick = new ≡ None
GoesOnSaying (Some before) new tick = new ≡ Some (before ++ told_by tick)
