use Rattle.ing_chunk.proofs.Between.{outside}
use Rattle.ing_chunk.proofs.laws.spans_bound_stamps.Goals as goal

pub returns : goal.returns
returns c = outside
