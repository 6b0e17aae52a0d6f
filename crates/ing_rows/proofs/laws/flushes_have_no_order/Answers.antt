use Rattle.ing_rows.proofs.FlushLaws.{flushes_have_no_order}
use Rattle.ing_rows.proofs.laws.flushes_have_no_order.Goals as goal

pub returns : goal.returns
returns c = flushes_have_no_order
