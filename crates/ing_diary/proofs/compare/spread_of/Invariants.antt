use Rattle.std.proofs.Common.{◌≡◌, ◌++◌, drop, filter}
use Rattle.std.specs.List.{flat_map}
use Rattle.ing_diary.specs.Notes.{is_in_shard}
use Rattle.ing_diary.proofs.compare.spread_of.Given as goal

-- those that are left do the rest
abbrev pub invariant-loop-noted : goal.invariant-loop-noted
invariant-loop-noted l =
    l.notes.items ++ filter (is_in_shard l.shards l.shard) (flat_map (λ noted. noted) (drop l.noted-index l.pushes))
    ≡ l.initial.notes.items ++ filter (is_in_shard l.shards l.shard) (flat_map (λ noted. noted) l.pushes)
