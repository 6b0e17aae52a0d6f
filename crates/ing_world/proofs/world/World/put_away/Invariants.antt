use Rattle.std.proofs.Common.{◌≡◌, ℕ, Some, vec_len}
use Rattle.ing_world.specs.Worlds.{OpenState, open_at}
use Rattle.ing_world.proofs.world.World.put_away.Given as goal

-- those that are left have shares of the shard's
abbrev pub invariant-loop-ticket : goal.invariant-loop-ticket
invariant-loop-ticket g l = (t : ℕ) (o : OpenState) → open_at l.tickets.items t ≡ Some o → o.book ≡ l.shard.books.flight.name

-- a ticket is taken out each time
abbrev pub decreases-loop-ticket : goal.decreases-loop-ticket
decreases-loop-ticket g l = vec_len l.tickets
