use Rattle.std.proofs.Common.{◌∙◌, All, Some, map, subst, sym}
use Rattle.std.proofs.lemmas.List.Elements.{All-pop}
use Rattle.ing_service.specs.Flying.{IsLentBy}
use Rattle.ing_service.proofs.SeatLaws.{lent_here}
use Rattle.ing_service.proofs.flights.give_each_back.Goals as goal

pub give_one_back-requires-clause-there : goal.give_one_back-requires-clause-there
give_one_back-requires-clause-there g c =
    let lent = All-pop (λ t. IsLentBy (map (λ seat. seat.shard.memory.books.flight.name) c.loop-ticket.seats) t.claimed t.share.book) c.loop-ticket.tickets.items c.pop.new.self.items (Some c.in-Some.ticket) c.in-Some.ensures.items c.loop-ticket.invariant.lent in
    lent_here (λ seat. seat.shard.memory) c.loop-ticket.seats c.in-Some.ticket.claimed c.in-Some.ticket.share.book lent.1

pub give_one_back-requires-clause-lent : goal.give_one_back-requires-clause-lent
give_one_back-requires-clause-lent g c =
    (All-pop (λ t. IsLentBy (map (λ seat. seat.shard.memory.books.flight.name) c.loop-ticket.seats) t.claimed t.share.book) c.loop-ticket.tickets.items c.pop.new.self.items (Some c.in-Some.ticket) c.in-Some.ensures.items c.loop-ticket.invariant.lent).1

pub loop-ticket-preserved : goal.loop-ticket-preserved
loop-ticket-preserved g c =
    let lent = All-pop (λ t. IsLentBy (map (λ seat. seat.shard.memory.books.flight.name) c.loop-ticket.seats) t.claimed t.share.book) c.loop-ticket.tickets.items c.pop.new.self.items (Some c.in-Some.ticket) c.in-Some.ensures.items c.loop-ticket.invariant.lent in
    record {
      lent = subst (λ l. All (λ t. IsLentBy l t.claimed t.share.book) c.pop.new.self.items) (sym c.give_one_back.ensures.books) lent.0;
      same = c.give_one_back.ensures.same ∙ c.loop-ticket.invariant.same;
    }
