use Rattle.ing_node.proofs.Selected.{all_kept, found_selected, found_within}
use Rattle.ing_node.proofs.laws.answers_are_of_snapshots.Goals as goal

pub returns-clause-kept : goal.returns-clause-kept
returns-clause-kept g c = all_kept

pub returns-clause-selected : goal.returns-clause-selected
returns-clause-selected g c tenant ms q ss found asked of = (found_selected tenant ms q ss found asked of, found_within tenant ms q ss found asked of)
