use Rattle.ing_rows.proofs.FlushLaws.{flushes_are_apart}
use Rattle.ing_rows.proofs.laws.flushes_are_apart.Goals as goal

pub returns : goal.returns
returns c = flushes_are_apart
