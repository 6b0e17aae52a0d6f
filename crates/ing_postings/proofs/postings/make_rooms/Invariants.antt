use Rattle.std.specs.FinMap.{entries}
use Rattle.ing_postings.proofs.Posted.{MakesRooms}
use Rattle.ing_postings.proofs.postings.make_rooms.Given as goal

abbrev pub invariant-loop-name : goal.invariant-loop-name
invariant-loop-name l =
    (goal.iterator-loop-name).can_next l.name-iterator
    × (goal.iterator-loop-name).is_finite l.name-iterator
    × MakesRooms (entries l.labels) l.name-iterator l.initial.index l.index
