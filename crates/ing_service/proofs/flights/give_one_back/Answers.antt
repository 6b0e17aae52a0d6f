use Rattle.std.proofs.Common.{◌∙◌, ◌<◌, ap, length, subst, sym}
use Rattle.ing_service.proofs.SeatLaws.{book_of, books_same, whose_same}
use Rattle.ing_service.proofs.flights.give_one_back.Goals as goal

pub give_back-requires : goal.give_back-requires
give_back-requires g c =
    let x = c.args.ticket in
    let at = sym (c.shard-place.ensures ∙ ap (λ f. f.shard) c.claimed.ensures) in
    let seats = c.args.seats.now in
    let here : c.shard-place.result < length seats = subst (λ n. n < length seats) at c.requires.there in
    record { lent = book_of (λ seat. seat.shard.memory) seats c.shard-place.result c.index-seats-place.result c.index-seats-place.result here x.claimed x.share.book at c.requires.lent }

pub returns-clause-books : goal.returns-clause-books
returns-clause-books g c = books_same (λ seat. seat.shard.memory) c.args.seats.now c.shard-place.result c.index-seats-place.result c.give_back.new.self c.give_back.ensures.same

pub returns-clause-same : goal.returns-clause-same
returns-clause-same g c = whose_same (λ seat. seat.shard.memory) c.args.seats.now c.shard-place.result c.index-seats-place.result c.give_back.new.self c.give_back.ensures.same
