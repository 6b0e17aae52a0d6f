use Rattle.std.specs.FinMap.{entries}
use Rattle.ing_postings.proofs.Posted.{Posts}
use Rattle.ing_postings.proofs.postings.post.Given as goal

abbrev pub invariant-loop-name : goal.invariant-loop-name
invariant-loop-name l =
    (goal.iterator-loop-name).can_next l.name-iterator
    × (goal.iterator-loop-name).is_finite l.name-iterator
    × Posts (entries l.labels) l.name-iterator l.place l.initial.index l.index
