use Rattle.ing_rows.proofs.FlushLaws.{flushes_keep_facts}
use Rattle.ing_rows.proofs.laws.flushes_keep_facts.Goals as goal

pub returns : goal.returns
returns c = flushes_keep_facts
