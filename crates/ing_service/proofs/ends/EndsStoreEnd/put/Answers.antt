use Rattle.ing_service.proofs.EndsLaws.{counted_too}
use Rattle.ing_service.proofs.ends.EndsStoreEnd.put.Goals as goal

pub returns-clause-count : goal.returns-clause-count
returns-clause-count g c = counted_too _ _ _ c.put.result c.put.ensures.count
