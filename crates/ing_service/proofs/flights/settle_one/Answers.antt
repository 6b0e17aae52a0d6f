use Rattle.std.proofs.Common.{◌≡◌, ◌∙◌, ◌<◌, ap, get_or, length, map, refl, set, subst, sym}
use Rattle.std.proofs.lemmas.List.{map-set}
use Rattle.ing_limits.specs.Ranges.{rules_for}
use Rattle.ing_durable.specs.Kept.{Whose, whose}
use Rattle.ing_service.specs.Each.{GoesAt}
use Rattle.ing_service.specs.Flushes.{SettlesIn, settled_as}
use Rattle.ing_service.specs.Held.{shard_held}
use Rattle.std.proofs.lemmas.Result.{on_ok_weaker}
use Rattle.ing_service.proofs.EachLaws.{goes_at, held_at, held_here}
use Rattle.ing_service.proofs.SeatLaws.{book_of, books_same, flew, goes_there, whose_same}
use Rattle.ing_service.proofs.WhoseLaws.{which}
use Rattle.ing_service.proofs.flights.settle_one.Goals as goal

pub settle-requires-clause-flies : goal.settle-requires-clause-flies
settle-requires-clause-flies g c =
    let seats = c.args.seats.now in
    let d = c.index-seats-place.result in
    let at = sym (c.shard-place.ensures ∙ ap (λ f. f.shard) c.claimed.ensures) in
    let here : c.shard-place.result < length seats = subst (λ n. n < length seats) at c.requires.there in
    flew (λ seat. seat.shard.memory) seats c.shard-place.result d d here c.args.ticket.claimed at c.requires.flies

pub settle-requires-clause-lent : goal.settle-requires-clause-lent
settle-requires-clause-lent g c =
    let x = c.args.ticket in
    let d = c.index-seats-place.result in
    let at = sym (c.shard-place.ensures ∙ ap (λ f. f.shard) c.claimed.ensures) in
    let seats = c.args.seats.now in
    let here : c.shard-place.result < length seats = subst (λ n. n < length seats) at c.requires.there in
    book_of (λ seat. seat.shard.memory) seats c.shard-place.result d d here x.claimed x.share.book at c.requires.lent

pub returns-clause-settles : goal.returns-clause-settles
returns-clause-settles g c = λ settings are.
    let seats = c.args.seats.now in
    let i = c.shard-place.result in
    let d = c.index-seats-place.result in
    let seat = get_or seats i d in
    let new = c.settle.new.self in
    let s = settled_as c.args.ticket.claimed c.args.upload in
    let at = sym (c.shard-place.ensures ∙ ap (λ f. f.shard) c.claimed.ensures) in
    let here : i < length seats = subst (λ n. n < length seats) at c.requires.there in
    let it : whose seat.shard.memory ≡ record { settings = settings; number = i } = which (λ s. whose s.shard.memory) settings seats are i seat d here refl in
    on_ok_weaker c.settle.result
    (λ settles. subst (λ n. GoesAt (SettlesIn (rules_for settings) s) n (map (λ s. shard_held s.shard) seats) (map (λ s. shard_held s.shard) (set seats i new))) (sym at)
    (subst (GoesAt (SettlesIn (rules_for settings) s) i (map (λ s. shard_held s.shard) seats)) (sym (map-set (λ s. shard_held s.shard) seats i new))
    (goes_at (SettlesIn (rules_for settings) s) i (map (λ s. shard_held s.shard) seats) (shard_held seat.shard) (shard_held new.shard)
    (held_here (λ s. shard_held s.shard) seats i seat d here refl) (held_at (λ s. shard_held s.shard) seats i seat d here refl)
    (subst (λ x. SettlesIn (rules_for x) s (shard_held seat.shard) (shard_held new.shard)) (ap (λ (w : Whose). w.settings) it) settles))))
    c.settle.ensures.settles

pub returns-clause-others : goal.returns-clause-others
returns-clause-others g c =
    let seats = c.args.seats.now in
    let d = c.index-seats-place.result in
    let at = sym (c.shard-place.ensures ∙ ap (λ f. f.shard) c.claimed.ensures) in
    let here : c.shard-place.result < length seats = subst (λ n. n < length seats) at c.requires.there in
    on_ok_weaker c.settle.result (λ others f apart flies. goes_there (λ seat. seat.shard.memory) seats c.shard-place.result d c.settle.new.self here f flies (λ same. others f (apart (same ∙ sym at)))) c.settle.ensures.others

pub returns-clause-books : goal.returns-clause-books
returns-clause-books g c = books_same (λ seat. seat.shard.memory) c.args.seats.now c.shard-place.result c.index-seats-place.result c.settle.new.self c.settle.ensures.same

pub returns-clause-same : goal.returns-clause-same
returns-clause-same g c = whose_same (λ seat. seat.shard.memory) c.args.seats.now c.shard-place.result c.index-seats-place.result c.settle.new.self c.settle.ensures.same
