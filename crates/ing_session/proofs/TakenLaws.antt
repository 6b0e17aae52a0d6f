-- Lines at hand that are taken, one after another.
use Rattle.std.proofs.Common.{ℕ, List, [], ◌∷◌, ◌++◌, refl, subst}
use Rattle.ing_commands.specs.PushCommands.{PushCommand}
use Rattle.ing_session.specs.PushLines.{TakesPush, TakesPushes}

-- one more is taken
pub takes_more : (pushes : List PushCommand) (push : PushCommand) (a b c : List ℕ) → TakesPushes a b pushes → TakesPush b c push → TakesPushes a c (pushes ++ push ∷ [])
takes_more [] push a b c so_far this = (c, subst (λ bytes. TakesPush bytes c push) so_far this, refl)
takes_more (p ∷ ps) push a b c so_far this = (so_far.0, so_far.1, takes_more ps push so_far.0 b c so_far.2 this)
