use Rattle.std.proofs.Common.{◌≡◌, All, map, take}
use Rattle.ing_service.specs.Ends.{IsShort}
use Rattle.ing_service.proofs.flights.upload_claimed.Given as goal

abbrev pub invariant-loop-ticket : goal.invariant-loop-ticket
invariant-loop-ticket g l = record {
  chunks : map (λ b. b.now) l.chunks.items ≡ map (λ ticket. ticket.claimed) (take l.ticket-index l.tickets);
  short : All (λ b. IsShort b.now) l.chunks.items;
}
