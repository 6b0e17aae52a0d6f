use Rattle.ing_rows.proofs.SealLaws.{due_same, by_same, count_same, swept_same, swept_count_same}
use Rattle.ing_rows.proofs.laws.seals_have_no_order.Goals as goal

pub returns-clause-due : goal.returns-clause-due
returns-clause-due c = due_same

pub returns-clause-seals : goal.returns-clause-seals
returns-clause-seals c = λ why a b same one. by_same a b same why one

pub returns-clause-sweeps : goal.returns-clause-sweeps
returns-clause-sweeps c = λ rules now a b same one. swept_same a b same rules now one

pub returns-clause-counts : goal.returns-clause-counts
returns-clause-counts c = λ why a b same. count_same a b same why

pub returns-clause-swept : goal.returns-clause-swept
returns-clause-swept c = λ rules now a b same. swept_count_same a b same rules now
