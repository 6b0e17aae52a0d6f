use Rattle.std.proofs.Common.{◌≡◌, ◌∙◌, ◌++◌, ◌∷◌, [], All, AllPairs, ap, append-nil, get_or, map, refl, set, subst, sym}
use Rattle.std.specs.Prelude.{option_map, option_to_list}
use Rattle.std.proofs.lemmas.List.{map-append, map-set}
use Rattle.std.proofs.lemmas.List.Elements.{All-push}
use Rattle.ing_limits.specs.Ranges.{rules_for}
use Rattle.ing_durable.specs.Kept.{Whose, whose}
use Rattle.ing_service.specs.Each.{GoesAt}
use Rattle.ing_service.specs.Flushes.{ClaimsIn}
use Rattle.ing_service.specs.Flying.{AreApart, FliesIn, IsLentBy}
use Rattle.ing_service.specs.Held.{shard_held}
use Rattle.ing_service.proofs.EachLaws.{goes_at, held_at, held_here}
use Rattle.ing_service.proofs.FlightsLaws.{pairs_push}
use Rattle.ing_service.proofs.SeatLaws.{apart_there, books_same, flies_now, lent_at, number_at, stay_there, whose_same}
use Rattle.ing_service.proofs.WhoseLaws.{which}
use Rattle.ing_service.proofs.flights.claim_one.Goals as goal

-- memory ran out

pub returns-in_err-ticket-clause-lent : goal.returns-in_err-ticket-clause-lent
returns-in_err-ticket-clause-lent g c = subst (λ l. All (λ t. IsLentBy l t.claimed t.share.book) c.args.tickets.now.items) (sym (books_same (λ seat. seat.shard.memory) c.args.seats.now c.args.op.shard c.index-seats-op.result c.claim.new.self c.claim.ensures.same)) c.requires.lent

pub returns-in_err-ticket-clause-same : goal.returns-in_err-ticket-clause-same
returns-in_err-ticket-clause-same g c = whose_same (λ seat. seat.shard.memory) c.args.seats.now c.args.op.shard c.index-seats-op.result c.claim.new.self c.claim.ensures.same

-- no chunk waits

pub returns-in_default-clause-claims : goal.returns-in_default-clause-claims
returns-in_default-clause-claims g c = λ settings are.
    let seats = c.args.seats.now in
    let i = c.args.op.shard in
    let d = c.index-seats-op.result in
    let seat = get_or seats i d in
    let new = c.claim.new.self in
    let claim = option_map (λ t. t.claimed) c.in_ok-ticket.field-0 in
    let it : whose seat.shard.memory ≡ record { settings = settings; number = i } = which (λ s. whose s.shard.memory) settings seats are i seat d c.requires.there refl in (
      claim,
      subst (GoesAt (ClaimsIn (rules_for settings) c.args.op claim) i (map (λ s. shard_held s.shard) seats)) (sym (map-set (λ s. shard_held s.shard) seats i new))
          (goes_at (ClaimsIn (rules_for settings) c.args.op claim) i (map (λ s. shard_held s.shard) seats) (shard_held seat.shard) (shard_held new.shard)
          (held_here (λ s. shard_held s.shard) seats i seat d c.requires.there refl) (held_at (λ s. shard_held s.shard) seats i seat d c.requires.there refl)
          (subst (λ s. ClaimsIn (rules_for s) c.args.op claim (shard_held seat.shard) (shard_held new.shard)) (ap (λ (w : Whose). w.settings) it) c.in_ok-ticket.ensures.claims)),
      sym (append-nil (map (λ t. t.claimed) c.args.tickets.now.items)) ∙ ap (λ o. map (λ t. t.claimed) c.args.tickets.now.items ++ option_to_list (option_map (λ t. t.claimed) o)) (sym c.in_default.is),
    )

pub returns-in_default-clause-lent : goal.returns-in_default-clause-lent
returns-in_default-clause-lent g c = subst (λ l. All (λ t. IsLentBy l t.claimed t.share.book) c.args.tickets.now.items) (sym (books_same (λ seat. seat.shard.memory) c.args.seats.now c.args.op.shard c.index-seats-op.result c.claim.new.self c.claim.ensures.same)) c.requires.lent

pub returns-in_default-clause-fly : goal.returns-in_default-clause-fly
returns-in_default-clause-fly g c =
    stay_there (λ seat. seat.shard.memory) c.args.seats.now c.args.op.shard c.index-seats-op.result c.claim.new.self c.requires.there (λ t. t.claimed) c.args.tickets.now.items c.requires.fly c.claim.ensures.stay

pub returns-in_default-clause-same : goal.returns-in_default-clause-same
returns-in_default-clause-same g c = whose_same (λ seat. seat.shard.memory) c.args.seats.now c.args.op.shard c.index-seats-op.result c.claim.new.self c.claim.ensures.same

-- a chunk is claimed

pub returns-clause-claims : goal.returns-clause-claims
returns-clause-claims g c = λ settings are.
    let seats = c.args.seats.now in
    let i = c.args.op.shard in
    let d = c.index-seats-op.result in
    let seat = get_or seats i d in
    let new = c.claim.new.self in
    let claim = option_map (λ t. t.claimed) c.in_ok-ticket.field-0 in
    let it : whose seat.shard.memory ≡ record { settings = settings; number = i } = which (λ s. whose s.shard.memory) settings seats are i seat d c.requires.there refl in (
      claim,
      subst (GoesAt (ClaimsIn (rules_for settings) c.args.op claim) i (map (λ s. shard_held s.shard) seats)) (sym (map-set (λ s. shard_held s.shard) seats i new))
          (goes_at (ClaimsIn (rules_for settings) c.args.op claim) i (map (λ s. shard_held s.shard) seats) (shard_held seat.shard) (shard_held new.shard)
          (held_here (λ s. shard_held s.shard) seats i seat d c.requires.there refl) (held_at (λ s. shard_held s.shard) seats i seat d c.requires.there refl)
          (subst (λ s. ClaimsIn (rules_for s) c.args.op claim (shard_held seat.shard) (shard_held new.shard)) (ap (λ (w : Whose). w.settings) it) c.in_ok-ticket.ensures.claims)),
      ap (map (λ t. t.claimed)) c.push_reserved.ensures.items ∙ map-append (λ t. t.claimed) c.args.tickets.now.items (c.in-Some.ticket ∷ [])
          ∙ ap (λ o. map (λ t. t.claimed) c.args.tickets.now.items ++ option_to_list (option_map (λ t. t.claimed) o)) (sym c.in-Some.is),
    )

pub returns-clause-lent : goal.returns-clause-lent
returns-clause-lent g c =
    let seats = c.args.seats.now in
    let i = c.args.op.shard in
    let d = c.index-seats-op.result in
    let new = c.claim.new.self in
    let x = c.in-Some.ticket in
    let old = c.args.tickets.now.items in
    let shards = c.requires.shards in
    let flies = rw c.in-Some.is at c.in_ok-ticket.ensures.flies in
    let at = number_at (λ seat. seat.shard.memory) seats i d new shards.0 shards.1 c.requires.there x.claimed c.claim.ensures.same flies in
    let this = lent_at (λ seat. seat.shard.memory) seats i d new c.requires.there x.claimed x.share.book at (rw c.in-Some.is at c.in_ok-ticket.ensures.lent) in
    subst (λ l. All (λ t. IsLentBy l t.claimed t.share.book) c.push_reserved.new.self.items) (sym (books_same (λ seat. seat.shard.memory) seats i d new c.claim.ensures.same))
    (subst (All (λ t. IsLentBy (map (λ seat. seat.shard.memory.books.flight.name) seats) t.claimed t.share.book)) (sym c.push_reserved.ensures.items)
    (All-push (λ t. IsLentBy (map (λ seat. seat.shard.memory.books.flight.name) seats) t.claimed t.share.book) old x c.requires.lent this))

pub returns-clause-fly : goal.returns-clause-fly
returns-clause-fly g c =
    let seats = c.args.seats.now in
    let i = c.args.op.shard in
    let d = c.index-seats-op.result in
    let new = c.claim.new.self in
    let x = c.in-Some.ticket in
    let old = c.args.tickets.now.items in
    let shards = c.requires.shards in
    let flies = rw c.in-Some.is at c.in_ok-ticket.ensures.flies in
    let at = number_at (λ seat. seat.shard.memory) seats i d new shards.0 shards.1 c.requires.there x.claimed c.claim.ensures.same flies in
    let now = map (λ seat. seat.shard.memory) (set seats i new) in
    subst (All (λ t. FliesIn now t.claimed)) (sym c.push_reserved.ensures.items)
    (All-push (λ t. FliesIn now t.claimed) old x
    (stay_there (λ seat. seat.shard.memory) seats i d new c.requires.there (λ t. t.claimed) old c.requires.fly c.claim.ensures.stay)
    (flies_now (λ seat. seat.shard.memory) seats i d new c.requires.there x.claimed at flies))

pub returns-clause-apart : goal.returns-clause-apart
returns-clause-apart g c =
    let seats = c.args.seats.now in
    let i = c.args.op.shard in
    let d = c.index-seats-op.result in
    let new = c.claim.new.self in
    let x = c.in-Some.ticket in
    let old = c.args.tickets.now.items in
    let shards = c.requires.shards in
    let flies = rw c.in-Some.is at c.in_ok-ticket.ensures.flies in
    let at = number_at (λ seat. seat.shard.memory) seats i d new shards.0 shards.1 c.requires.there x.claimed c.claim.ensures.same flies in
    subst (AllPairs (λ one other. AreApart one.claimed other.claimed)) (sym c.push_reserved.ensures.items)
    (pairs_push (λ one other. AreApart one.claimed other.claimed) old x c.requires.apart
    (apart_there (λ seat. seat.shard.memory) seats i d new c.requires.there (λ t. t.claimed) old c.requires.fly x at (rw c.in-Some.is at c.in_ok-ticket.ensures.apart)))

pub returns-clause-same : goal.returns-clause-same
returns-clause-same g c = whose_same (λ seat. seat.shard.memory) c.args.seats.now c.args.op.shard c.index-seats-op.result c.claim.new.self c.claim.ensures.same
