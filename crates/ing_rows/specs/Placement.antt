-- Which shard a stream is in (own).
use Rattle.std.specs.Prelude.{ℕ, ◌%◌, List, ◌∷◌, ◌++◌, take}
use Rattle.std.specs.Int.{w32, from_be_bytes}
use Rattle.sha2.specs.Sha256.{sha256}

-- The first four bytes of the SHA-256 (FIPS 180-4) of the tenant, a byte 0 and the canonical name, as a big-endian
-- number, modulo the count of shards.
abbrev pub shard_of : List ℕ → List ℕ → ℕ → ℕ
shard_of tenant name shards = from_be_bytes w32 (take 4 (sha256 (tenant ++ 0 ∷ name))) % shards
