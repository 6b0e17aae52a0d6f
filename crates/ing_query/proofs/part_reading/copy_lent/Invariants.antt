use Rattle.std.proofs.Common.{◌≡◌, ◌++◌, drop, map}
use Rattle.ing_parts.specs.Parts.{found_of}
use Rattle.ing_query.proofs.part_reading.copy_lent.Given as goal

-- those that are left do the rest
abbrev pub invariant-loop-lent : goal.invariant-loop-lent
invariant-loop-lent l =
    l.found.items ++ map (found_of l.name) (drop l.lent-index l.entries) ≡ l.initial.found.items ++ map (found_of l.name) l.entries
