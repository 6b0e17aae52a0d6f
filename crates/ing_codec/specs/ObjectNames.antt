-- The names of objects (own).
use Rattle.std.specs.Prelude.{ℕ, List, ◌∷◌, ◌++◌, codes, take}
use Rattle.sha2.specs.Sha256.{sha256}
use Rattle.hex.specs.Hex.{encode_lower}

-- of a chunk: `c-`, and the 64 lower-case hexadecimal digits of its key, which is the SHA-256 (FIPS 180-4)
-- of its bytes
abbrev pub chunk_name : List ℕ → List ℕ
chunk_name key = codes "c-" ++ encode_lower key

-- the SHA-256 of the tenant, a byte 0 and the canonical name
abbrev pub stream_digest : List ℕ → List ℕ → List ℕ
stream_digest tenant name = sha256 (tenant ++ 0 ∷ name)

-- of a row: `r-`, the first 16 hexadecimal digits of the SHA-256 of the tenant, a byte 0 and the canonical
-- name, `-`, and the digits of the key of the chunk
abbrev pub row_name : List ℕ → List ℕ → List ℕ → List ℕ
row_name tenant name key = codes "r-" ++ (encode_lower (take 8 (stream_digest tenant name)) ++ (codes "-" ++ encode_lower key))
