-- What holds of a world between events, and what running it comes to.
-- What names no section of the Loki documentation is own.
use Rattle.std.specs.Prelude.{◌≡◌, ℕ, List, map, IsPermutation, Option, Some}
use Rattle.ing_rows.specs.declared.rules.Rules.{Rules}
use Rattle.ing_rows.specs.Events as events
use Rattle.ing_rows.specs.Events.{Event, Run, accepted_of}
use Rattle.ing_rows.specs.Kept.{Numbered, numbered}
use Rattle.ing_rows.specs.Rows.{empty_state}
use Rattle.ing_rows.specs.Sound.{IsSound}
use Rattle.ing_shard.specs.Contents.{AreSharesOf, Contents, IsOnly}
use Rattle.ing_shard.specs.Flights.{IsInFlight}
use Rattle.ing_world.specs.declared.event.WorldEvent.{WorldEvent}
use Rattle.ing_world.specs.declared.reply.Reply.{Reply}
use Rattle.ing_world.specs.declared.world.World.{World}
use Rattle.ing_world.specs.Worlds.{OpenState, WorldState, empty_world, open_at}
use Rattle.ing_world.specs.Turns.{StandsInFull, Tale, Turn, Turns}

-- The shard is the only one; the chunks of open tickets are in flight, each in a flight of its own, and these have shares of the
-- shard's.
pub record TicketsAreHeld (shard : Contents) (tickets : List (Option OpenState)) : Type 0 where
  pub only : IsOnly shard
  pub flies : (t : ℕ) (o : OpenState) → open_at tickets t ≡ Some o → IsInFlight o.flown shard
  pub lent : (t : ℕ) (o : OpenState) → open_at tickets t ≡ Some o → o.book ≡ shard.books.flight.name
  pub apart : (t u : ℕ) (o p : OpenState) → open_at tickets t ≡ Some o → open_at tickets u ≡ Some p → o.flown.flight ≡ p.flown.flight → t ≡ u

-- and so are the shares of what was accepted and of what was stored
pub record AreHeld {R : Type 0} (w : World R) : Type 0 where
  pub tickets : TicketsAreHeld w.shard w.tickets.items
  pub shares : AreSharesOf w.shard.books w.pushing w.tally

-- what stands in the shard is what was answered accepted
pub record IsKept {R : Type 0} (w : World R) (accepted : List Numbered) : Type 0 where
  pub sound : IsSound w.shard.state
  pub kept : IsPermutation (map numbered w.shard.state.rows) accepted

-- the world, where these were answered accepted
abbrev pub seen : {R : Type 0} → World R → List Numbered → WorldState
seen w accepted = record { state = w.shard.state; listed = w.shard.listed; tickets = w.tickets.items; accepted = accepted }

-- a turn from a world in which these were answered accepted
pub record HasTurned {R : Type 0} (rules : List ℕ → Rules) (tells : Tale) (told : Reply) (old new : World R) (accepted : List Numbered) : Type 0 where
  pub after : List Numbered
  pub turn : Turn rules tells told (seen old accepted) (seen new after)
  pub kept : IsKept new after

-- From the world without entries, the events turn into this world, with these replies; their steps are a run of the model, by
-- which that is accepted which was answered so.
pub record HasRun {R : Type 0} (rules : List ℕ → Rules) (es : List WorldEvent) (told : List Reply) (w : World R) : Type 0 where
  pub accepted : List Numbered
  pub turns : Turns rules empty_world es told (seen w accepted)
  pub stands : StandsInFull (seen w accepted)
  pub steps : List (Event × events.Reply)
  pub run : Run rules empty_state steps w.shard.state
  pub all : accepted_of steps ≡ accepted
