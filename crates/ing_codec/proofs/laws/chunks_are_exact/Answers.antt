use Rattle.ing_codec.proofs.ChunkLaws.{chunk_takes, chunk_again}
use Rattle.ing_codec.proofs.laws.chunks_are_exact.Goals as goal

pub returns : goal.returns
returns c = record { each = chunk_again; only = chunk_takes }
