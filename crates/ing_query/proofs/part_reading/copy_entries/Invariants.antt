use Rattle.std.proofs.Common.{◌≡◌, ◌++◌, drop, map}
use Rattle.ing_parts.specs.Parts.{found_of}
use Rattle.ing_query.proofs.part_reading.copy_entries.Given as goal

-- those that are left do the rest
abbrev pub invariant-loop-numbered : goal.invariant-loop-numbered
invariant-loop-numbered l =
    l.found.items ++ map (found_of l.name) (drop l.numbered-index l.entries) ≡ l.initial.found.items ++ map (found_of l.name) l.entries
