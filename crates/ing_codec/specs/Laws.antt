-- What is said of the bytes of objects and of their fields: each has one spelling, in each version that there is
-- of it, and each spelling is accepted from one object alone (own).
use Rattle.std.specs.Prelude.{⊤, ◌≡◌, ◌<◌, ◌≤◌, ◌+◌, ◌^◌, ℕ, true, List, [], ◌∷◌, ◌++◌, length, slice_index, Result, Ok}
use Rattle.std.specs.Int.{w32, w64, to_be_bytes}
use Rattle.std.specs.List.{flat_map, AllByRecursion}
use Rattle.std.specs.Str.{is_utf8}
use Rattle.ing_rows.specs.Texts.{is_tenant}
use Rattle.ing_chunk.specs.declared.numbered.Numbered.{Numbered}
use Rattle.ing_chunk.specs.Chunks.{in_blocks}
use Rattle.ing_chunk.specs.Parts.{AreParts, max_line}
use Rattle.ing_codec.specs.declared.fault.CodecFault.{CodecFault}
use Rattle.ing_codec.specs.declared.version.Version.{Version}
use Rattle.ing_codec.specs.Fields.{Rest, short_text, long_text, meta_text, is_name, read_bytes, read_number, read_known_version, read_tenant, read_name, read_line, read_meta, read_stamp, read_first}
use Rattle.ing_codec.specs.Versions.{version_byte}
use Rattle.ing_codec.specs.ChunkObjects.{ChunkObject, IsBlock, IsObject, Spells, block_text}
use Rattle.ing_codec.specs.ChunkReading.{read_block_count, read_blocks, read_chunk}
use Rattle.ing_codec.specs.RowObjects.{RowObject, IsExtent, IsRow, extent_text, row_text, read_extent, read_row}

-- each is a byte
abbrev pub AreBytes : List ℕ → Type 0
AreBytes bytes = (i : ℕ) → slice_index bytes i < 256

-- what spells a chunk, in either version, is read as that chunk; what is read as a chunk spells it
pub record ChunksAreExact : Type 0 where
  pub each : (bytes : List ℕ) (o : ChunkObject) → IsObject o → Spells bytes o → read_chunk bytes ≡ Ok o
  pub only : (bytes : List ℕ) (o : ChunkObject) → AreBytes bytes → read_chunk bytes ≡ Ok o → IsObject o × Spells bytes o

-- the same of rows
pub record RowsAreExact : Type 0 where
  pub each : (o : RowObject) → IsRow o → read_row (row_text o) ≡ Ok o
  pub only : (bytes : List ℕ) (o : RowObject) → AreBytes bytes → read_row bytes ≡ Ok o → IsRow o × (bytes ≡ row_text o)

-- ---- fields

-- the bytes that are left, and the offset of the first of them
abbrev pub left_from : ℕ → List ℕ → Rest
left_from at bytes = record { at = at; bytes = bytes }

-- what is written of a field is read as that field, whatever stands after it, which remains; of what is read as
-- a field, what is written of it stands in front, and what stands after it remains
pub record FieldIsExact {A : Type 0} (IsField : A → Type 0) (text : A → List ℕ) (read : Rest → Result (A × Rest) CodecFault) : Type 0 where
  pub each : (x : A) → IsField x → (at : ℕ) (more : List ℕ) → (after : ℕ) × (read (left_from at (text x ++ more)) ≡ Ok (x, left_from after more))
  pub only : (r : Rest) (x : A) (after : Rest) → AreBytes r.bytes → read r ≡ Ok (x, after) → IsField x × (r.bytes ≡ text x ++ after.bytes) × AreBytes after.bytes

-- so many blocks that follow one another from a first number on
pub record AreBlocks (first blocks : ℕ) (bs : List (List Numbered)) : Type 0 where
  pub count : length bs ≡ blocks
  pub parts : AreParts first bs
  pub last : first + length (in_blocks bs) ≤ 2 ^ 62
  pub few : length (in_blocks bs) < 2 ^ 32
  pub each : AllByRecursion IsBlock bs

-- the fields of objects, one by one
pub record FieldsAreExact : Type 0 where
  pub numbers_of_4 : FieldIsExact (λ n. n < 2 ^ 32) (to_be_bytes w32) (read_number w32)
  pub numbers_of_8 : FieldIsExact (λ n. n < 2 ^ 64) (to_be_bytes w64) (read_number w64)
  pub counts : FieldIsExact (λ n. (0 < n) × (n < 2 ^ 32)) (to_be_bytes w32) read_block_count
  pub stamps : FieldIsExact (λ n. n < 2 ^ 63) (to_be_bytes w64) read_stamp
  pub firsts : FieldIsExact (λ n. n ≤ 2 ^ 62) (to_be_bytes w64) read_first
  pub tenants : FieldIsExact (λ t. is_tenant t ≡ true) short_text read_tenant
  pub names : FieldIsExact (λ t. (is_name t ≡ true) × (length t < 2 ^ 32)) long_text read_name
  pub versions : FieldIsExact (λ _. ⊤) (λ v. version_byte v ∷ []) read_known_version
  pub lines : FieldIsExact (λ t. (is_utf8 t ≡ true) × (length t ≤ max_line)) long_text read_line
  pub metas : (v : Version) → FieldIsExact (λ _. ⊤) (λ _. meta_text v) (read_meta v)
  pub extents : FieldIsExact IsExtent extent_text read_extent
  pub keys : FieldIsExact (λ k. length k ≡ 32) (λ k. k) (read_bytes 32)
  pub blocks : (v : Version) (first count : ℕ) → first ≤ 2 ^ 62 → FieldIsExact (AreBlocks first count) (flat_map (block_text v first)) (read_blocks v first count 0 [])
