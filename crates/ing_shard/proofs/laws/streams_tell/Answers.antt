use Rattle.std.proofs.Common.{◌&&◌}
use Rattle.ing_labels.specs.Selectors.{selects}
use Rattle.ing_shard.specs.Catalog.{tells}
use Rattle.ing_shard.proofs.PickLaws.{there_is}
use Rattle.ing_shard.proofs.laws.streams_tell.Goals as goal

pub returns : goal.returns
returns c = λ asked text. there_is c.canonical_names_are_decided.ensures c.canonical_names_are_exact.ensures asked.tenant (λ m. selects asked.ms m && tells asked.facet m text)
