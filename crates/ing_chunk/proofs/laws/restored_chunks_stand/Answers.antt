use Rattle.ing_chunk.proofs.Restored.{parts_are_blocks, restored_grow, restored_wait}
use Rattle.ing_chunk.proofs.laws.restored_chunks_stand.Goals as goal

pub returns : goal.returns
returns c = record { blocks = parts_are_blocks; grow = restored_grow; wait = restored_wait }
