use Rattle.std.proofs.Common.{◌≡◌, take}
use Rattle.ing_world.proofs.event.copied.Given as goal

-- the entries so far are copied
abbrev pub invariant-loop-entry : goal.invariant-loop-entry
invariant-loop-entry l = l.copy.items ≡ take l.entry-index l.entries
