use Rattle.std.proofs.Common.{◌≡◌, take}
use Rattle.ing_relist.proofs.same.are_entries.Given as goal

-- the entries before are the same
abbrev pub invariant-loop-place : goal.invariant-loop-place
invariant-loop-place l = take l.place l.lent ≡ take l.place l.entries
