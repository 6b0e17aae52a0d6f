use Rattle.std.proofs.Common.{◌≡◌, ◌+◌, ◌++◌, All, AllPairs, List, map, reverse}
use Rattle.std.specs.Prelude.{vec_len}
use Rattle.ing_limits.specs.Ranges.{rules_for}
use Rattle.ing_limits.specs.Settings.{StoreSettings}
use Rattle.ing_durable.specs.Kept.{whose}
use Rattle.ing_session.specs.Causes.{GoesOn, HaveCause}
use Rattle.ing_service.specs.Ends.{NeverFail, failures_in}
use Rattle.ing_service.specs.Flushes.{Settled, SettleEach, failed_among, stored_among}
use Rattle.ing_service.specs.Flying.{AreApart, FliesIn, IsLentBy}
use Rattle.ing_service.specs.Held.{AreShardsOf, shard_held}
use Rattle.ing_service.proofs.flights.settle_all.Given as goal

-- some rounds are settled, and what is left is in flight
abbrev pub invariant-loop-alloc : goal.invariant-loop-alloc
invariant-loop-alloc g l =
    let failures = failures_in g.S.StoreEnd.failure_count in
    record {
      settles : (settings : StoreSettings) → AreShardsOf settings (map (λ seat. whose seat.shard.memory) l.fn.seats) → (settled : List Settled)
          × SettleEach (rules_for settings) settled (map (λ seat. shard_held seat.shard) l.fn.seats) (map (λ seat. shard_held seat.shard) l.seats)
          × (map (λ s. s.chunk) settled ++ map (λ ticket. ticket.claimed) (reverse l.tickets.items) ≡ map (λ ticket. ticket.claimed) (reverse l.fn.tickets.items))
          × (l.told.failed ≡ failed_among settled) × (l.told.stored ≡ stored_among settled)
          × HaveCause (failures l.fn.ends) (failures l.ends) (failed_among settled);
      few : vec_len l.tickets + l.told.failed + l.told.stored ≡ vec_len l.fn.tickets;
      lent : All (λ ticket. IsLentBy (map (λ seat. seat.shard.memory.books.flight.name) l.seats) ticket.claimed ticket.share.book) l.tickets.items;
      fly : All (λ ticket. FliesIn (map (λ seat. seat.shard.memory) l.seats) ticket.claimed) l.tickets.items;
      apart : AllPairs (λ one other. AreApart one.claimed other.claimed) l.tickets.items;
      same : map (λ seat. whose seat.shard.memory) l.seats ≡ map (λ seat. whose seat.shard.memory) l.fn.seats;
      end : GoesOn (NeverFail g.S.StoreEnd.never_fails) failures l.fn.ends l.ends;
    }

abbrev pub decreases-loop-alloc : goal.decreases-loop-alloc
decreases-loop-alloc g l = vec_len l.tickets
