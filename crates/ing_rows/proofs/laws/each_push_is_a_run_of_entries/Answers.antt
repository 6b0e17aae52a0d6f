use Rattle.ing_rows.proofs.PushLaws.{pushes_computed}
use Rattle.ing_rows.proofs.laws.each_push_is_a_run_of_entries.Goals as goal

pub returns : goal.returns
returns c = pushes_computed
