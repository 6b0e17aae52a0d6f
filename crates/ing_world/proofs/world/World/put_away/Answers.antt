use Rattle.std.proofs.Common.{◌∙◌, ◌++◌, ◌∷◌, [], ap, length, sym}
use Rattle.ing_world.specs.Worlds.{open_at}
use Rattle.ing_world.proofs.TicketLaws.{open_before, open_last}
use Rattle.ing_world.proofs.world.World.put_away.Goals as goal

pub loop-ticket-init : goal.loop-ticket-init
loop-ticket-init g c = c.requires.tickets.lent

pub give_back-requires : goal.give_back-requires
give_back-requires g c =
    let left = c.pop.new.self.items in
    let o = c.in-Some-ticket.open in
    c.loop-ticket.invariant (length left) o
    (ap (λ l. open_at l (length left)) c.in-Some.ensures.items ∙ ap (λ x. open_at (left ++ x ∷ []) (length left)) c.in-Some-ticket.is ∙ open_last left o)

-- a ticket that was closed is taken out
pub loop-ticket-preserved : goal.loop-ticket-preserved
loop-ticket-preserved g c = λ t o is.
    c.loop-ticket.invariant t o (ap (λ l. open_at l t) c.in-Some.ensures.items ∙ open_before c.pop.new.self.items c.in-Some.ticket t o is)

-- and one that was open is given back, to the same books
pub loop-ticket-preserved-in-Some-ticket : goal.loop-ticket-preserved-in-Some-ticket
loop-ticket-preserved-in-Some-ticket g c = λ t o is.
    c.loop-ticket.invariant t o (ap (λ l. open_at l t) c.in-Some.ensures.items ∙ open_before c.pop.new.self.items c.in-Some.ticket t o is)
    ∙ sym (ap (λ n. n.flight) c.give_back.ensures.same.books)

pub loop-ticket-preserved-in-Some-ticket-2 : goal.loop-ticket-preserved-in-Some-ticket-2
loop-ticket-preserved-in-Some-ticket-2 g c = λ t o is.
    c.loop-ticket.invariant t o (ap (λ l. open_at l t) c.in-Some.ensures.items ∙ open_before c.pop.new.self.items c.in-Some.ticket t o is)
    ∙ sym (ap (λ n. n.flight) c.give_back.ensures.same.books)
