use Rattle.ing_rows.proofs.TurnLaws.{facts_in_turn, sound_in_turn, same_in_turn}
use Rattle.ing_rows.proofs.laws.acceptances_in_turn.Goals as goal

pub returns-clause-facts : goal.returns-clause-facts
returns-clause-facts c = facts_in_turn

pub returns-clause-sound : goal.returns-clause-sound
returns-clause-sound c = sound_in_turn

pub returns-clause-order : goal.returns-clause-order
returns-clause-order c = same_in_turn
