-- What contracts see of a shard whose books are gathered (own).
use Rattle.std.specs.Prelude.{ℕ, map, refl}
use Rattle.std.specs.Coded.{Coded, code_by, coded×, coded_ℕ}
use Rattle.ing_rows.specs.Rows.{State}
use Rattle.ing_limits.specs.Settings.{StoreSettings}
use Rattle.ing_limits.specs.Coded.{settings_code}
use Rattle.ing_shard.specs.Contents.{AreOwn, Contents}
use Rattle.ing_shard.specs.Streams.{AreHeld, key_of}
use Rattle.ing_shard.specs.declared.streams.Streams.{Streams}

-- its settings, its number, and the model's state
pub record ClosedContents : Type 0 where
  pub settings : StoreSettings
  pub number : ℕ
  pub state : State

-- they are stored as these
abbrev pub closed_code : Coded State → Coded ClosedContents
closed_code state_code =
    code_by (StoreSettings × (ℕ × State)) (coded× settings_code (coded× coded_ℕ state_code))
    (λ c. (c.settings, (c.number, c.state))) (λ p. record { settings = p.0; number = p.1.0; state = p.1.1 }) (λ _. refl)

-- a shard without its books
abbrev pub closed_of : Contents → ClosedContents
closed_of shard = record { settings = shard.settings; number = shard.number; state = shard.state }

-- what is kept beside its streams is what they give, and each of them is its own
pub record IsClosedShard {R : Type 0} (settings : StoreSettings) (number : ℕ) (streams : Streams R) : Type 0 where
  pub held : AreHeld streams
  pub own : AreOwn settings.shards number (map key_of streams.list.items)
