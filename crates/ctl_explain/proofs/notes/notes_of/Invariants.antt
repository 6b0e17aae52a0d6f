use Rattle.std.proofs.Common.{◌≡◌, ◌++◌, map, drop}
use Rattle.ctl_explain.proofs.notes.notes_of.Given as goal

-- the names of the notes so far, and those that are left, are all
abbrev pub invariant-loop-name : goal.invariant-loop-name
invariant-loop-name l = map (λ note. note.name.now) l.notes.items ++ map (λ name. name.now) (drop l.name-index l.name-items) ≡ map (λ name. name.now) l.name-items
