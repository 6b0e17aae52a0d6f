-- The versions of chunks and logs (own).
use Rattle.std.specs.Prelude.{ℕ}
use Rattle.ing_codec.specs.declared.version.Version.{Version}
use Rattle.ing_codec.specs.declared.version.Version.TheVariants.{First, Second}

-- the byte that tells a version
abbrev pub version_byte : Version → ℕ
version_byte First = 1
version_byte Second = 2

-- the version in which chunks and logs are written
abbrev pub written_version : Version
written_version = Second
