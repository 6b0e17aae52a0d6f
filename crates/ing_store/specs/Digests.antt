-- What the SHA-256 (FIPS 180-4) of two texts tells (own).
use Rattle.std.specs.Prelude.{◌≡◌, ℕ, List}
use Rattle.sha2.specs.Sha256.{sha256}

-- two texts have one digest
abbrev pub HasDigestOf : List ℕ → List ℕ → Type 0
HasDigestOf a b = sha256 a ≡ sha256 b
