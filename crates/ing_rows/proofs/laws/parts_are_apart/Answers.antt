use Rattle.ing_rows.proofs.PartLaws.{facts_beside, sound_live, sound_streams, sound_beside, same_beside, swapped_beside}
use Rattle.ing_rows.proofs.laws.parts_are_apart.Goals as goal

pub returns-clause-facts : goal.returns-clause-facts
returns-clause-facts c = facts_beside

pub returns-clause-live : goal.returns-clause-live
returns-clause-live c = λ st tenant. sound_live tenant st

pub returns-clause-streams : goal.returns-clause-streams
returns-clause-streams c = sound_streams

pub returns-clause-sound : goal.returns-clause-sound
returns-clause-sound c = sound_beside

pub returns-clause-same : goal.returns-clause-same
returns-clause-same c = same_beside

pub returns-clause-swapped : goal.returns-clause-swapped
returns-clause-swapped c = swapped_beside
