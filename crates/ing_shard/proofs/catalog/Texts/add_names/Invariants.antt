use Rattle.std.specs.FinMap.{entries}
use Rattle.ing_shard.proofs.TellLaws.{AddsNames}
use Rattle.ing_shard.proofs.catalog.Texts.add_names.Given as goal

-- all names but those that are left are added
abbrev pub invariant-loop-name : goal.invariant-loop-name
invariant-loop-name l =
    (goal.iterator-loop-name).can_next l.name-iterator
    × (goal.iterator-loop-name).is_finite l.name-iterator
    × AddsNames (entries l.labels) l.name-iterator l.initial.self l.self
