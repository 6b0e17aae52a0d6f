use Rattle.std.proofs.Common.{◌≡◌, length, take}
use Rattle.ing_sealed.proofs.sealed_chunks.are_same.Given as goal

abbrev pub invariant-loop-index : goal.invariant-loop-index
invariant-loop-index l = (length l.a ≡ length l.b) × (take l.index l.a ≡ take l.index l.b)
