use Rattle.std.proofs.Common.{◌≡◌, ◌+◌, ◌-◌, ◌≤◌, ◌++◌, All, AllPairs, List, drop, map, reverse}
use Rattle.std.specs.Prelude.{vec_len}
use Rattle.ing_limits.specs.Ranges.{rules_for}
use Rattle.ing_limits.specs.Settings.{StoreSettings}
use Rattle.ing_durable.specs.Kept.{whose}
use Rattle.std.specs.Prelude.{IfSome}
use Rattle.std.specs.List.{AllZip}
use Rattle.ing_service.specs.Ends.{IsUploadOf, lost_in}
use Rattle.ing_service.specs.Flushes.{Settled, SettleEach, failed_among, stored_among}
use Rattle.ing_service.specs.Flying.{AreApart, FliesIn, IsLentBy}
use Rattle.ing_service.specs.Held.{AreShardsOf, shard_held}
use Rattle.ing_service.proofs.flights.settle_each.Given as goal

-- so many of the last are settled, and what is left is in flight
abbrev pub invariant-loop-upload : goal.invariant-loop-upload
invariant-loop-upload g l = record {
  settles : (settings : StoreSettings) → AreShardsOf settings (map (λ seat. whose seat.shard.memory) l.fn.seats) → (settled : List Settled)
      × SettleEach (rules_for settings) settled (map (λ seat. shard_held seat.shard) l.fn.seats) (map (λ seat. shard_held seat.shard) l.seats)
      × (map (λ s. s.chunk) settled ++ map (λ ticket. ticket.claimed) (reverse l.tickets.items) ≡ map (λ ticket. ticket.claimed) (reverse l.fn.tickets.items))
      × (failed_among settled + lost_in l.uploads.items ≡ lost_in l.fn.uploads.items)
      × (failed_among settled + stored_among settled + vec_len l.uploads ≡ vec_len l.fn.uploads);
  few : vec_len l.uploads ≤ vec_len l.tickets;
  fewer : vec_len l.tickets + vec_len l.fn.uploads ≡ vec_len l.fn.tickets + vec_len l.uploads;
  of : AllZip (λ ticket upload. IfSome upload (IsUploadOf g.R.Receipt.bytes g.R.Receipt.name ticket.claimed)) (drop (vec_len l.tickets - vec_len l.uploads) l.tickets.items) l.uploads.items;
  lent : All (λ ticket. IsLentBy (map (λ seat. seat.shard.memory.books.flight.name) l.seats) ticket.claimed ticket.share.book) l.tickets.items;
  fly : All (λ ticket. FliesIn (map (λ seat. seat.shard.memory) l.seats) ticket.claimed) l.tickets.items;
  apart : AllPairs (λ one other. AreApart one.claimed other.claimed) l.tickets.items;
  same : map (λ seat. whose seat.shard.memory) l.seats ≡ map (λ seat. whose seat.shard.memory) l.fn.seats;
}

abbrev pub decreases-loop-upload : goal.decreases-loop-upload
decreases-loop-upload g l = vec_len l.uploads
