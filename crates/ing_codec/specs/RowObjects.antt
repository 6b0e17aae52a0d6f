-- A row of an index as one object: what is told of a stored chunk, which rows there are, the bytes of each,
-- and how they are read (own).
use Rattle.std.specs.Prelude.{◌≡◌, ℕ, ◌+◌, ◌*◌, ◌<◌, ◌≤◌, ◌^◌, true, not, ◌&&◌, ◌==◌, nat_le, List, ◌++◌, length, codes, Some, Result, Ok, Err, if◌then◌else◌}
use Rattle.std.specs.Int.{w32, w64, to_be_bytes}
use Rattle.ing_refusals.specs.Results.{◌>>=◌}
use Rattle.ing_rows.specs.Texts.{is_tenant}
use Rattle.ing_chunk.specs.Chunks.{ChunkContents, count_in, size_of_chunk, span_of}
use Rattle.ing_codec.specs.declared.index_row.Extent.{Extent}
use Rattle.ing_codec.specs.declared.fault.CodecFault.{CodecFault}
use Rattle.ing_codec.specs.declared.fault.CodecFault.TheVariants.{BadField}
use Rattle.ing_codec.specs.Fields.{Rest, whole, front_text, is_name, read_number, read_bytes, read_stamp, read_first, read_front, row_version}
use Rattle.ing_codec.specs.ChunkReading.{ended}

-- of a stored chunk: its stream, the numbers, the size and the stamps of its entries, and its key
pub record RowObject : Type 0 where
  pub tenant : List ℕ
  pub name : List ℕ
  pub extent : Extent
  pub key : List ℕ

abbrev pub row_object : List ℕ → List ℕ → Extent → List ℕ → RowObject
row_object tenant name extent key = record { tenant = tenant; name = name; extent = extent; key = key }

-- the bytes of the numbers, the size and the stamps
abbrev pub extent_text : Extent → List ℕ
extent_text x = to_be_bytes w64 x.first ++ (to_be_bytes w32 x.count ++ (to_be_bytes w64 x.size ++ (to_be_bytes w64 x.least ++ to_be_bytes w64 x.greatest)))

-- the bytes of a row
unfoldable pub row_text : RowObject → List ℕ
row_text o = front_text (codes "INGR") row_version o.tenant o.name ++ (extent_text o.extent ++ o.key)

-- what has to hold of the numbers, the size and the stamps of the entries of a chunk
pub record IsExtent (x : Extent) : Type 0 where
  pub some : 0 < x.count
  pub few : x.count < 2 ^ 32
  pub last : x.first + x.count ≤ 2 ^ 62
  pub size : x.count * 16 ≤ x.size
  pub small : x.size < 2 ^ 64
  pub span : x.least ≤ x.greatest
  pub stamps : x.greatest < 2 ^ 63

-- the numbers, the size and the stamps are those of the entries of this chunk
pub record IsExtentOf (c : ChunkContents) (x : Extent) : Type 0 where
  pub first : x.first ≡ c.first
  pub count : x.count ≡ count_in c
  pub size : x.size ≡ size_of_chunk c
  pub span : span_of c ≡ Some (x.least, x.greatest)

-- and of the lengths of a row, for it to have a spelling
pub record IsListed (o : RowObject) : Type 0 where
  pub name_length : length o.name < 2 ^ 32
  pub extent : IsExtent o.extent
  pub key : length o.key ≡ 32

-- a row that has a spelling
pub record IsRow (o : RowObject) : Type 0 where
  pub tenant : is_tenant o.tenant ≡ true
  pub name : is_name o.name ≡ true
  pub listed : IsListed o

-- ---- reading

-- how many entries, from a first number on: one or more, and no number reaches 2^62
unfoldable pub read_count : ℕ → Rest → Result (ℕ × Rest) CodecFault
read_count first r = do
  n ← read_number w32 r
  if not (n.0 == 0) && nat_le (first + n.0) (2 ^ 62) then Ok n else Err (BadField r.at)

-- their size: 16 bytes for each, and those of its line
unfoldable pub read_size : ℕ → Rest → Result (ℕ × Rest) CodecFault
read_size count r = do
  n ← read_number w64 r
  if nat_le (count * 16) n.0 then Ok n else Err (BadField r.at)

-- the greatest stamp, not below the least
unfoldable pub read_greatest : ℕ → Rest → Result (ℕ × Rest) CodecFault
read_greatest least r = do
  n ← read_stamp r
  if nat_le least n.0 then Ok n else Err (BadField r.at)

abbrev pub extent : ℕ → ℕ → ℕ → ℕ → ℕ → Extent
extent first count size least greatest = record { first = first; count = count; size = size; least = least; greatest = greatest }

-- the numbers, the size and the stamps
unfoldable pub read_extent : Rest → Result (Extent × Rest) CodecFault
read_extent r = do
  f ← read_first r
  c ← read_count f.0 f.1
  s ← read_size c.0 c.1
  l ← read_stamp s.1
  g ← read_greatest l.0 l.1
  Ok (extent f.0 c.0 s.0 l.0 g.0, g.1)

-- all of the bytes: the row, or the first fault
unfoldable pub read_row : List ℕ → Result RowObject CodecFault
read_row bytes = do
  h ← read_front (codes "INGR") row_version (whole bytes)
  x ← read_extent h.2
  k ← read_bytes 32 x.1
  ended (row_object h.0 h.1 x.0 k.0) k.1
