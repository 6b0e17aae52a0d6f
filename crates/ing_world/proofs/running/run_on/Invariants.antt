use Rattle.std.proofs.Common.{◌≡◌, List, take}
use Rattle.ing_limits.specs.Ranges.{rules_for}
use Rattle.ing_rows.specs.Kept.{Numbered}
use Rattle.ing_world.specs.Held.{AreHeld, IsKept, seen}
use Rattle.ing_world.specs.Turns.{Turns}
use Rattle.ing_world.specs.Worlds.{empty_world}
use Rattle.ing_world.proofs.running.run_on.Given as goal

-- the events so far have turned into this world
abbrev pub invariant-loop-event : goal.invariant-loop-event
invariant-loop-event g l =
    record {
      held : AreHeld l.world;
      settings : l.world.shard.settings ≡ l.fn.world.shard.settings;
      turns : (accepted : List Numbered) × IsKept l.world accepted
          × Turns (rules_for l.fn.world.shard.settings) empty_world (take l.event-index l.events) l.replies.items (seen l.world accepted);
    }
