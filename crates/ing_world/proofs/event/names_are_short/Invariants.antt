use Rattle.std.proofs.Common.{take}
use Rattle.std.specs.Prelude.{All}
use Rattle.ing_world.specs.Turns.{IsShort}
use Rattle.ing_world.proofs.event.names_are_short.Given as goal

-- the names so far are short
abbrev pub invariant-loop-event : goal.invariant-loop-event
invariant-loop-event l = All IsShort (take l.event-index l.events)
