use Rattle.ing_rows.proofs.SoundLaws.{push_sound, order_sound, empty_sound}
use Rattle.ing_rows.proofs.laws.pushes_keep_states_sound.Goals as goal

pub returns-clause-fresh : goal.returns-clause-fresh
returns-clause-fresh c = empty_sound

pub returns-clause-push : goal.returns-clause-push
returns-clause-push c = push_sound

pub returns-clause-order : goal.returns-clause-order
returns-clause-order c = order_sound
