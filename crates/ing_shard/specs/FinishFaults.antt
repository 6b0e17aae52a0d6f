-- What comes back of a finish that is refused (own).
use Rattle.std.specs.Prelude.{◌≡◌}
use Rattle.ing_refusals.specs.declared.refusal.Refusal.{Refusal}
use Rattle.ing_refusals.specs.declared.refusal.Refusal.TheVariants as refusal
use Rattle.ing_tally.specs.Books.{ShareState}
use Rattle.ing_checkpoint.specs.Flushed.{Flushed}
use Rattle.ing_shard.specs.declared.claimed.FinishFault.{FinishFault}
use Rattle.ing_shard.specs.declared.claimed.FinishFault.TheVariants.{NoMemory, Stranger}
use Rattle.ing_shard.specs.Flights.{Flown}

-- all that was handed over; it is a stranger only where the chunk does not fly
abbrev pub GivesAllBack : {R : Type 0} → Flown → ShareState → Flushed R → Type 0 → FinishFault R → Type 0
GivesAllBack f share flushed flies (NoMemory ticket back) = (ticket.claimed ≡ f) × (ticket.share ≡ share) × (back ≡ flushed)
GivesAllBack f share flushed flies (Stranger stranger) = (stranger.stray.claimed ≡ f) × (stranger.stray.share ≡ share) × (stranger.flushed ≡ flushed) × (flies → ⊥)

-- which refusal it is
abbrev pub finish_refusal_of : {R : Type 0} → FinishFault R → Refusal
finish_refusal_of (NoMemory ticket back) = refusal.NoMemory
finish_refusal_of (Stranger stranger) = refusal.Stranger
