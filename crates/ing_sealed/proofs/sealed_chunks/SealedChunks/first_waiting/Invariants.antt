use Rattle.std.proofs.Common.{◌≡◌, false, map, take}
use Rattle.std.specs.Prelude.{All}
use Rattle.ing_rows.specs.Rows.{is_block}
use Rattle.ing_sealed.specs.KeptSlots.{slot_of}
use Rattle.ing_sealed.proofs.sealed_chunks.SealedChunks.first_waiting.Given as goal

abbrev pub invariant-loop-index : goal.invariant-loop-index
invariant-loop-index g l = All (λ x. is_block x.place ≡ false) (take l.index (map slot_of l.self-inside.slots.items))
