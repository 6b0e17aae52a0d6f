-- A chunk with two entries, and its bytes.
use Rattle.std.specs.Prelude.{◌≡◌, ℕ, List, [], ◌∷◌, ◌++◌, codes, Ok}
use Rattle.ing_codec.specs.declared.version.Version.TheVariants.{First}
use Rattle.ing_codec.specs.ChunkObjects.{ChunkObject, chunk_text, text_in}
use Rattle.ing_codec.specs.ChunkReading.{chunk_object, numbered, read_chunk}

-- tenant t, labels {a="1"}; number 1 at stamp 3 with yz, and number 0 at stamp 5 with x, in one block
abbrev pub worked_chunk : ChunkObject
worked_chunk = chunk_object (codes "t") (codes "{a=\"1\"}") 0 ((numbered 1 3 (codes "yz") ∷ numbered 0 5 (codes "x") ∷ []) ∷ [])

-- its 71 bytes, as they are written
abbrev pub worked_bytes : List ℕ
worked_bytes =
    codes "INGC" ++ 2 ∷ 1 ∷ codes "t" ++ 0 ∷ 0 ∷ 0 ∷ 7 ∷ codes "{a=\"1\"}"
    ++ 0 ∷ 0 ∷ 0 ∷ 0 ∷ 0 ∷ 0 ∷ 0 ∷ 0 ∷ 0 ∷ 0 ∷ 0 ∷ 1 ∷ 0 ∷ 0 ∷ 0 ∷ 2
    ∷ 0 ∷ 0 ∷ 0 ∷ 1 ∷ 0 ∷ 0 ∷ 0 ∷ 0 ∷ 0 ∷ 0 ∷ 0 ∷ 3 ∷ 0 ∷ 0 ∷ 0 ∷ 2 ∷ codes "yz" ++ 0
    ∷ 0 ∷ 0 ∷ 0 ∷ 0 ∷ 0 ∷ 0 ∷ 0 ∷ 0 ∷ 0 ∷ 0 ∷ 0 ∷ 5 ∷ 0 ∷ 0 ∷ 0 ∷ 1 ∷ codes "x" ++ 0 ∷ []

-- its 69 bytes in the first version
abbrev pub worked_bytes_of_first : List ℕ
worked_bytes_of_first =
    codes "INGC" ++ 1 ∷ 1 ∷ codes "t" ++ 0 ∷ 0 ∷ 0 ∷ 7 ∷ codes "{a=\"1\"}"
    ++ 0 ∷ 0 ∷ 0 ∷ 0 ∷ 0 ∷ 0 ∷ 0 ∷ 0 ∷ 0 ∷ 0 ∷ 0 ∷ 1 ∷ 0 ∷ 0 ∷ 0 ∷ 2
    ∷ 0 ∷ 0 ∷ 0 ∷ 1 ∷ 0 ∷ 0 ∷ 0 ∷ 0 ∷ 0 ∷ 0 ∷ 0 ∷ 3 ∷ 0 ∷ 0 ∷ 0 ∷ 2 ∷ codes "yz"
    ++ 0 ∷ 0 ∷ 0 ∷ 0 ∷ 0 ∷ 0 ∷ 0 ∷ 0 ∷ 0 ∷ 0 ∷ 0 ∷ 5 ∷ 0 ∷ 0 ∷ 0 ∷ 1 ∷ codes "x"

-- both ways, and of the first version
pub record ChunkIsWorked : Type 0 where
  pub written : chunk_text worked_chunk ≡ worked_bytes
  pub read : read_chunk worked_bytes ≡ Ok worked_chunk
  pub of_first : text_in First worked_chunk ≡ worked_bytes_of_first
  pub read_of_first : read_chunk worked_bytes_of_first ≡ Ok worked_chunk
