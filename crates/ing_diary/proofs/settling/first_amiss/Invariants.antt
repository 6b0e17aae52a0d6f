use Rattle.std.proofs.Common.{◌≡◌, ◌≤◌, length, take}
use Rattle.ing_diary.proofs.settling.first_amiss.Given as goal

-- the notes so far are alike
abbrev pub invariant-loop-place : goal.invariant-loop-place
invariant-loop-place l = (l.place ≤ length l.theirs) × (take l.place l.ours ≡ take l.place l.theirs)
