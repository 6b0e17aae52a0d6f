use Rattle.std.proofs.Common.{◌≡◌, All, length, map}
use Rattle.ing_durable.specs.Kept.{whose}
use Rattle.ing_service.specs.Flying.{IsLentBy}
use Rattle.ing_service.proofs.flights.give_each_back.Given as goal

abbrev pub invariant-loop-ticket : goal.invariant-loop-ticket
invariant-loop-ticket g l = record {
  lent : All (λ ticket. IsLentBy (map (λ seat. seat.shard.memory.books.flight.name) l.seats) ticket.claimed ticket.share.book) l.tickets.items;
  same : map (λ seat. whose seat.shard.memory) l.seats ≡ map (λ seat. whose seat.shard.memory) l.fn.seats;
}

abbrev pub decreases-loop-ticket : goal.decreases-loop-ticket
decreases-loop-ticket g l = length l.tickets.items
