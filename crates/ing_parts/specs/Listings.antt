-- A stored chunk as its shard lists it (own).
use Rattle.std.specs.Prelude.{◌≡◌, ℕ, List, [], length, Result, Ok, Err}
use Rattle.sha2.specs.Sha256.{sha256}
use Rattle.ing_chunk.specs.declared.numbered.Numbered.{Numbered}
use Rattle.ing_chunk.specs.Chunks.{in_blocks, size_of_entries, least_of, greatest_of}
use Rattle.ing_store.specs.Extent.{Extent}
use Rattle.ing_store.specs.CodecFault.{CodecFault}
use Rattle.ing_store.specs.ChunkObjects.{ChunkObject, IsObject}
use Rattle.ing_store.specs.ChunkReading.{read_chunk}
use Rattle.ing_store.specs.RowObjects.{RowObject}

-- the name and the bytes that its receipt means, the chunk that these bytes spell, and its key
pub record Listed : Type 0 where
  pub name : List ℕ
  pub bytes : List ℕ
  pub tenant : List ℕ
  pub stream : List ℕ
  pub first : ℕ
  pub blocks : List (List Numbered)
  pub key : List ℕ

-- what is read of a chunk: its tenant, its stream, its first number and its blocks; nothing where none is read
abbrev pub tenant_in : Result ChunkObject CodecFault → List ℕ
tenant_in (Ok o) = o.tenant
tenant_in (Err fault) = []

abbrev pub stream_in : Result ChunkObject CodecFault → List ℕ
stream_in (Ok o) = o.name
stream_in (Err fault) = []

abbrev pub first_in : Result ChunkObject CodecFault → ℕ
first_in (Ok o) = o.first
first_in (Err fault) = 0

abbrev pub blocks_in : Result ChunkObject CodecFault → List (List Numbered)
blocks_in (Ok o) = o.blocks
blocks_in (Err fault) = []

abbrev pub listed_of : List ℕ → List ℕ → List ℕ → Listed
listed_of name bytes key =
    record {
      name = name;
      bytes = bytes;
      tenant = tenant_in (read_chunk bytes);
      stream = stream_in (read_chunk bytes);
      first = first_in (read_chunk bytes);
      blocks = blocks_in (read_chunk bytes);
      key = key;
    }

-- the numbers, the size and the stamps of the entries of these blocks
abbrev pub extent_of : ℕ → List (List Numbered) → Extent
extent_of first blocks =
    let es = in_blocks blocks in
    record { first = first; count = length es; size = size_of_entries es; least = least_of es; greatest = greatest_of es }

-- a chunk is read from the bytes, and the row tells its stream, its extent and its key
pub record IsListing (bytes : List ℕ) (row : RowObject) : Type 0 where
  pub object : ChunkObject
  pub is : IsObject object
  pub read : read_chunk bytes ≡ Ok object
  pub tenant : row.tenant ≡ object.tenant
  pub stream : row.name ≡ object.name
  pub extent : row.extent ≡ extent_of object.first object.blocks
  pub key : row.key ≡ sha256 bytes

-- what is listed is the chunk that the bytes spell, under their key
pub record IsSpelt (listed : Listed) : Type 0 where
  pub object : ChunkObject
  pub is : IsObject object
  pub read : read_chunk listed.bytes ≡ Ok object
  pub tenant : listed.tenant ≡ object.tenant
  pub stream : listed.stream ≡ object.name
  pub first : listed.first ≡ object.first
  pub blocks : listed.blocks ≡ object.blocks
  pub key : listed.key ≡ sha256 listed.bytes

-- a chunk has the stream, the first number and the count of what is listed
pub record IsLike (listed : Listed) (o : ChunkObject) : Type 0 where
  pub tenant : o.tenant ≡ listed.tenant
  pub stream : o.name ≡ listed.stream
  pub first : o.first ≡ listed.first
  pub count : length (in_blocks o.blocks) ≡ length (in_blocks listed.blocks)
