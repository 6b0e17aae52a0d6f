-- What comes back of a finish that is refused (own).
use Rattle.std.specs.Prelude.{◌≡◌}
use Rattle.ing_tally.specs.Books.{ShareState}
use Rattle.ing_shard.specs.Flights.{Flown}
use Rattle.ing_flush.specs.declared.door.Unfinished.{Unfinished}
use Rattle.ing_flush.specs.declared.door.Unfinished.TheVariants.{NoMemory, Stranger}

-- all that was handed over
abbrev pub GivesBack : {U : Type 0} → Flown → ShareState → U → Unfinished U → Type 0
GivesBack f share uploaded (NoMemory ticket back) = (ticket.claimed ≡ f) × (ticket.share ≡ share) × (back ≡ uploaded)
GivesBack f share uploaded (Stranger stray back) = (stray.claimed ≡ f) × (stray.share ≡ share) × (back ≡ uploaded)
