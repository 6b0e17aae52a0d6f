use Rattle.std.proofs.Common.{arith}
use Rattle.std.proofs.lemmas.Grind.{common_steps}
use Rattle.ing_shard.specs.Names.{name_hash}
use Rattle.ing_shard.proofs.names.hash_of.Goals as goal

pub returns : goal.returns
unfolding name_hash
returns c = grind (arith, common_steps)
