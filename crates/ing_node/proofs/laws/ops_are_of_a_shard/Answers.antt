use Rattle.ing_node.proofs.Sealed.{ops_have_number}
use Rattle.ing_node.proofs.laws.ops_are_of_a_shard.Goals as goal

pub returns : goal.returns
returns c = ops_have_number
