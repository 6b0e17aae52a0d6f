use Rattle.std.proofs.Common.{inr, refl, subst, sym}
use Rattle.ing_lanes.specs.Ending.TheVariants.{Differs}
use Rattle.ing_program.specs.Ended.{IsEndingOfEntries}
use Rattle.ing_program.proofs.channels.ending_of_entries.Goals as goal

-- an entry that differs is told with its place
pub returns-in-Ok-clause-told : goal.returns-in-Ok-clause-told
returns-in-Ok-clause-told c =
    subst (λ why. IsEndingOfEntries c.args.shard why (Differs c.in-Ok.place)) (sym c.in-Differs.is) (inr (c.in-Ok.place, refl, c.in-Ok.ensures))
