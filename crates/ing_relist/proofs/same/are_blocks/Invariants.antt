use Rattle.std.proofs.Common.{◌≡◌, take}
use Rattle.ing_relist.proofs.same.are_blocks.Given as goal

-- the blocks before are the same
abbrev pub invariant-loop-place : goal.invariant-loop-place
invariant-loop-place l = take l.place l.lent ≡ take l.place l.blocks
