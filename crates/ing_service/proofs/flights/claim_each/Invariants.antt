use Rattle.std.proofs.Common.{◌≡◌, ◌≤◌, All, AllPairs, List, length, map, take}
use Rattle.std.specs.Prelude.{Option, vec_len, vec_capacity}
use Rattle.ing_limits.specs.Ranges.{rules_for}
use Rattle.ing_limits.specs.Settings.{StoreSettings}
use Rattle.ing_durable.specs.Flights.{Flown}
use Rattle.ing_durable.specs.Kept.{whose}
use Rattle.ing_service.specs.Flushes.{ClaimEach, claimed_in}
use Rattle.ing_service.specs.Flying.{AreApart, FliesIn, IsLentBy}
use Rattle.ing_service.specs.Held.{AreShardsOf, shard_held}
use Rattle.ing_service.proofs.flights.claim_each.Given as goal

-- the operations so far have claimed so, and what they claimed is in flight
abbrev pub invariant-loop-op : goal.invariant-loop-op
invariant-loop-op g l = record {
  claims : (settings : StoreSettings) → AreShardsOf settings (map (λ seat. whose seat.shard.memory) l.fn.seats) → (claims : List (Option Flown))
      × ClaimEach (rules_for settings) (take l.op-index l.ops) claims (map (λ seat. shard_held seat.shard) l.fn.seats) (map (λ seat. shard_held seat.shard) l.seats)
      × (map (λ ticket. ticket.claimed) l.tickets.items ≡ claimed_in claims);
  lent : All (λ ticket. IsLentBy (map (λ seat. seat.shard.memory.books.flight.name) l.seats) ticket.claimed ticket.share.book) l.tickets.items;
  fly : All (λ ticket. FliesIn (map (λ seat. seat.shard.memory) l.seats) ticket.claimed) l.tickets.items;
  apart : AllPairs (λ one other. AreApart one.claimed other.claimed) l.tickets.items;
  room : vec_len l.tickets ≤ l.op-index;
  capacity : length l.ops ≤ vec_capacity l.tickets;
  many : length l.seats ≡ length l.fn.seats;
  same : map (λ seat. whose seat.shard.memory) l.seats ≡ map (λ seat. whose seat.shard.memory) l.fn.seats;
}
