use Rattle.ing_chunk.proofs.Ordered.{stamps_rise}
use Rattle.ing_chunk.proofs.laws.stamps_rise.Goals as goal

pub returns : goal.returns
returns c = stamps_rise
