use Rattle.ing_rows.proofs.SealLaws.{sealed_beside, due_front, due_back, count_joined, by_alike, count_alike, swept_beside, swept_count_beside, nothing_sealed, nothing_counted, facts_sealed, sealed_sound}
use Rattle.ing_rows.proofs.laws.seals_are_apart.Goals as goal

pub returns-clause-parts : goal.returns-clause-parts
returns-clause-parts c = sealed_beside

pub returns-clause-due : goal.returns-clause-due
returns-clause-due c = λ rules now m rows more. (due_front rules now m rows more, due_back rules now m rows more)

pub returns-clause-counts : goal.returns-clause-counts
returns-clause-counts c = count_joined

pub returns-clause-reasons : goal.returns-clause-reasons
returns-clause-reasons c = λ why other st same. (by_alike why other st same, count_alike why other st.marks same)

pub returns-clause-sweep : goal.returns-clause-sweep
returns-clause-sweep c =
    λ rules now a b away back. (swept_beside rules now a b away back, swept_count_beside rules now a b away back)

pub returns-clause-still : goal.returns-clause-still
returns-clause-still c = λ why st stays. (nothing_sealed why st stays, nothing_counted why st.marks stays)

pub returns-clause-sound : goal.returns-clause-sound
returns-clause-sound c = sealed_sound

pub returns-clause-facts : goal.returns-clause-facts
returns-clause-facts c = facts_sealed
