use Rattle.ing_rows.proofs.ApartLaws.{accepted_beside}
use Rattle.ing_rows.proofs.laws.chunks_are_apart.Goals as goal

pub returns : goal.returns
returns c = accepted_beside
