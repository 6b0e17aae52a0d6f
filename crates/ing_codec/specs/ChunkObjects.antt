-- A chunk as one object: what it has, which chunks there are, and the bytes of each (own).
use Rattle.std.specs.Prelude.{◌≡◌, ◌≢◌, ℕ, ◌+◌, ◌-◌, ◌<◌, ◌≤◌, ◌^◌, true, List, [], ◌++◌, length, codes}
use Rattle.std.specs.List.{flat_map, AllByRecursion}
use Rattle.std.specs.Int.{w32, w64, to_be_bytes}
use Rattle.std.specs.Str.{is_utf8}
use Rattle.ing_rows.specs.Texts.{is_tenant}
use Rattle.ing_chunk.specs.declared.numbered.Numbered.{Numbered}
use Rattle.ing_chunk.specs.Chunks.{AreInOrder, in_blocks}
use Rattle.ing_chunk.specs.Parts.{AreParts}
use Rattle.ing_codec.specs.declared.version.Version.{Version}
use Rattle.ing_codec.specs.Fields.{front_text, long_text, meta_text, is_name}
use Rattle.ing_codec.specs.Versions.{version_byte, written_version}

-- whose it is, the number of its first entry, and the entries of each block
pub record ChunkObject : Type 0 where
  pub tenant : List ℕ
  pub name : List ℕ
  pub first : ℕ
  pub blocks : List (List Numbered)

-- ---- the bytes of a chunk, in a version

-- an entry, by its number from the first of the chunk on
abbrev pub entry_text : Version → ℕ → Numbered → List ℕ
entry_text v first e =
    to_be_bytes w32 (e.number - first) ++ (to_be_bytes w64 e.entry.stamp ++ (long_text e.entry.line ++ meta_text v))

abbrev pub block_text : Version → ℕ → List Numbered → List ℕ
block_text v first b = to_be_bytes w32 (length b) ++ flat_map (entry_text v first) b

-- what stands before the first block
abbrev pub head_text : Version → ChunkObject → List ℕ
head_text v o = front_text (codes "INGC") (version_byte v) o.tenant o.name ++ (to_be_bytes w64 o.first ++ to_be_bytes w32 (length o.blocks))

-- all of them: each chunk has this one spelling in the version
unfoldable pub text_in : Version → ChunkObject → List ℕ
text_in v o = head_text v o ++ flat_map (block_text v o.first) o.blocks

-- as they are written
abbrev pub chunk_text : ChunkObject → List ℕ
chunk_text o = text_in written_version o

-- the bytes spell the chunk, in a version
pub record Spells (bytes : List ℕ) (o : ChunkObject) : Type 0 where
  pub version : Version
  pub is : bytes ≡ text_in version o

-- ---- which chunks there are

-- what has to hold of the numbers and lengths of a chunk for it to have a spelling
pub record IsNumbered (o : ChunkObject) : Type 0 where
  pub name_length : length o.name < 2 ^ 32
  pub some : o.blocks ≢ []
  pub parts : AreParts o.first o.blocks
  pub last : o.first + length (in_blocks o.blocks) ≤ 2 ^ 62
  pub few : length (in_blocks o.blocks) < 2 ^ 32

-- an entry with a stamp, and a line of UTF-8 (RFC 3629)
pub record IsEntry (e : Numbered) : Type 0 where
  pub stamp : e.entry.stamp < 2 ^ 63
  pub utf8 : is_utf8 e.entry.line ≡ true

-- a block in order of stamp, then number
pub record IsBlock (b : List Numbered) : Type 0 where
  pub in_order : AreInOrder b
  pub entries : AllByRecursion IsEntry b

-- a chunk that has a spelling
pub record IsObject (o : ChunkObject) : Type 0 where
  pub tenant : is_tenant o.tenant ≡ true
  pub name : is_name o.name ≡ true
  pub numbered : IsNumbered o
  pub blocks : AllByRecursion IsBlock o.blocks
