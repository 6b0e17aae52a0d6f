-- Worked settings.
use Rattle.std.specs.Prelude.{◌≡◌, codes, [], Some, None, Ok, Err}
use Rattle.ing_limits.specs.Durations.{duration_of}
use Rattle.toml.specs.Data.{no_members}
use Rattle.ing_limits.specs.Settings.{settings_of, settings_in, unknown_setting, bad_setting}

-- the parts are added up, and a fraction, an empty text and a unit alone are no durations
pub record WorkedDurations : Type 0 where
  pub parts : duration_of (codes "1h30m") ≡ Some 5400000000000
  pub units : duration_of (codes "1s2ms3us4ns") ≡ Some 1002003004
  pub greatest : duration_of (codes "9223372036854775807ns") ≡ Some 9223372036854775807
  pub too_long : duration_of (codes "9223372036854775808ns") ≡ None
  pub fraction : duration_of (codes "1.5h") ≡ None
  pub no_part : duration_of [] ≡ None
  pub no_digit : duration_of (codes "h") ≡ None
  pub no_unit : duration_of (codes "1h30") ≡ None

-- an empty text gives all defaults, each range ends where it says, unknown names come before bad values, and the first name in byte order before the others
pub record WorkedRefusals : Type 0 where
  pub empty : settings_of [] ≡ Ok (settings_in no_members)
  pub above : settings_of (codes "shards = 65\n") ≡ Err (bad_setting (codes "shards"))
  pub below : settings_of (codes "shards = 0\n") ≡ Err (bad_setting (codes "shards"))
  pub fraction : settings_of (codes "max_chunk_age = \"1.5h\"\n") ≡ Err (bad_setting (codes "max_chunk_age"))
  pub unknown : settings_of (codes "chunk_retain_period = \"1m\"\n") ≡ Err (unknown_setting (codes "chunk_retain_period"))
  pub tenants : settings_of (codes "tenants = 1\n") ≡ Err (bad_setting (codes "tenants"))
  pub in_tenant : settings_of (codes "[tenants.acme]\nshards = 1\n") ≡ Err (unknown_setting (codes "tenants.acme.shards"))
  pub unknown_first : settings_of (codes "flushers = 0\nzone = 1\narea = 1\n") ≡ Err (unknown_setting (codes "area"))
