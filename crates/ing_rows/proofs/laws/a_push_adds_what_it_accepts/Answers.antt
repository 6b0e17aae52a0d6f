use Rattle.ing_rows.proofs.PushLaws.{pushed_rows}
use Rattle.ing_rows.proofs.laws.a_push_adds_what_it_accepts.Goals as goal

pub returns : goal.returns
returns c = pushed_rows
