use Rattle.std.proofs.Common.{◌≡◌, ◌++◌, drop}
use Rattle.ing_diary.proofs.noting.copies_of.Given as goal

-- those that are left do the rest
abbrev pub invariant-loop-entry : goal.invariant-loop-entry
invariant-loop-entry l = l.copies.items ++ drop l.entry-index l.entries ≡ l.entries
