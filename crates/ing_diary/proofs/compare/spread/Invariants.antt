use Rattle.std.proofs.Common.{◌≡◌, ◌++◌, drop}
use Rattle.std.specs.List.{flat_map}
use Rattle.ing_diary.proofs.compare.spread.Given as goal

-- those that are left do the rest
abbrev pub invariant-loop-noted : goal.invariant-loop-noted
invariant-loop-noted l =
    l.notes.items ++ flat_map (λ noted. noted) (drop l.noted-index l.pushes) ≡ l.initial.notes.items ++ flat_map (λ noted. noted) l.pushes
