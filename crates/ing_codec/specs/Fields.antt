-- The fields of objects: how each is written, and how each is read from the front of the bytes that are left.
-- Every number is unsigned and big-endian. What names no standard is own.
use Rattle.std.specs.Prelude.{⊤, ℕ, ◌+◌, ◌^◌, Bool, ◌&&◌, ◌||◌, ◌==◌, nat_lt, nat_le, List, [], ◌∷◌, ◌++◌, length, take, drop, bytes_eq, Result, Ok, Err, if◌then◌else◌}
use Rattle.std.specs.Int.{Width, w32, w64, byte_len, from_be_bytes, to_be_bytes}
use Rattle.std.specs.Str.{is_utf8}
use Rattle.ing_refusals.specs.Results.{◌>>=◌}
use Rattle.ing_rows.specs.Texts.{is_tenant}
use Rattle.ing_chunk.specs.Parts.{max_line}
use Rattle.ing_labels.specs.CanonicalTests.{is_canonical}
use Rattle.ing_codec.specs.declared.fault.CodecFault.{CodecFault}
use Rattle.ing_codec.specs.declared.fault.CodecFault.TheVariants.{Truncated, BadMagic, BadVersion, BadField}
use Rattle.ing_codec.specs.declared.version.Version.{Version}
use Rattle.ing_codec.specs.declared.version.Version.TheVariants.{First, Second}

-- ---- how fields are written

-- a text of at most 255 bytes: one byte of length, and the text
abbrev pub short_text : List ℕ → List ℕ
short_text text = length text ∷ text

-- a text: four bytes of length, and the text
abbrev pub long_text : List ℕ → List ℕ
long_text text = to_be_bytes w32 (length text) ++ text

-- the version of a row
abbrev pub row_version : ℕ
row_version = 1

-- what stands behind a line: nothing in the first version, and in the second how many pairs of metadata the entry has, which is none
abbrev pub meta_text : Version → List ℕ
meta_text First = []
meta_text Second = 0 ∷ []

-- the letters of a kind of object, its version, a tenant and a canonical name, with which each object begins
abbrev pub front_text : List ℕ → ℕ → List ℕ → List ℕ → List ℕ
front_text letters version tenant name = letters ++ (version ∷ (short_text tenant ++ long_text name))

-- ---- how fields are read

-- the bytes that are left, and the offset of the first of them
pub record Rest : Type 0 where
  pub at : ℕ
  pub bytes : List ℕ

-- all bytes of an object
abbrev pub whole : List ℕ → Rest
whole bytes = record { at = 0; bytes = bytes }

-- without the first n bytes
abbrev pub skip : ℕ → Rest → Rest
skip n r = record { at = r.at + n; bytes = drop n r.bytes }

-- so many bytes
abbrev pub read_bytes : ℕ → Rest → Result (List ℕ × Rest) CodecFault
read_bytes n r = if nat_lt (length r.bytes) n then Err Truncated else Ok (take n r.bytes, skip n r)

-- a number of a width
abbrev pub read_number : Width → Rest → Result (ℕ × Rest) CodecFault
read_number w r = if nat_lt (length r.bytes) (byte_len w) then Err Truncated else Ok (from_be_bytes w (take (byte_len w) r.bytes), skip (byte_len w) r)

abbrev pub first_byte : ℕ → List ℕ → Result (ℕ × Rest) CodecFault
first_byte at [] = Err Truncated
first_byte at (b ∷ bs) = Ok (b, record { at = at + 1; bytes = bs })

-- one byte
abbrev pub read_byte : Rest → Result (ℕ × Rest) CodecFault
read_byte r = first_byte r.at r.bytes

-- the four letters of a kind of object
unfoldable pub read_magic : List ℕ → Rest → Result Rest CodecFault
read_magic letters r = do
  m ← read_bytes 4 r
  if bytes_eq m.0 letters then Ok m.1 else Err BadMagic

-- the version that is expected
unfoldable pub read_version : ℕ → Rest → Result Rest CodecFault
read_version version r = do
  v ← read_byte r
  if v.0 == version then Ok v.1 else Err BadVersion

abbrev pub known_version : ℕ → Rest → Result (Version × Rest) CodecFault
known_version byte r =
    if byte == 1 then Ok (First, r) else
    if byte == 2 then Ok (Second, r) else
    Err BadVersion

-- a version of a chunk
unfoldable pub read_known_version : Rest → Result (Version × Rest) CodecFault
read_known_version r = do
  v ← read_byte r
  known_version v.0 v.1

-- a text, where it is UTF-8 (RFC 3629), which begins at an offset
abbrev pub utf8_at : ℕ → List ℕ → Result (List ℕ) CodecFault
utf8_at at text = if is_utf8 text then Ok text else Err (BadField at)

-- a tenant id, with a length of 1 to 150
unfoldable pub read_tenant : Rest → Result (List ℕ × Rest) CodecFault
read_tenant r = do
  n ← read_byte r
  if n.0 == 0 || nat_lt 150 n.0 then Err (BadField r.at) else do
    t ← read_bytes n.0 n.1
    if is_tenant t.0 then Ok t else Err (BadField n.1.at)

-- the bytes are a canonical name: UTF-8 (RFC 3629), and the canonical name of some labels
abbrev pub is_name : List ℕ → Bool
is_name text = is_utf8 text && is_canonical text

-- a canonical name
unfoldable pub read_name : Rest → Result (List ℕ × Rest) CodecFault
read_name r = do
  n ← read_number w32 r
  t ← read_bytes n.0 n.1
  if is_name t.0 then Ok t else Err (BadField n.1.at)

-- a line, UTF-8 (RFC 3629)
unfoldable pub read_line : Rest → Result (List ℕ × Rest) CodecFault
read_line r = do
  n ← read_number w32 r
  if nat_lt max_line n.0 then Err (BadField r.at) else do
    t ← read_bytes n.0 n.1
    if is_utf8 t.0 then Ok t else Err (BadField n.1.at)

-- what stands behind a line
unfoldable pub read_meta : Version → Rest → Result (⊤ × Rest) CodecFault
read_meta First r = Ok (tt, r)
read_meta Second r = do
  n ← read_byte r
  if n.0 == 0 then Ok (tt, n.1) else Err (BadField r.at)

-- a stamp, in nanoseconds
unfoldable pub read_stamp : Rest → Result (ℕ × Rest) CodecFault
read_stamp r = do
  n ← read_number w64 r
  if nat_lt n.0 (2 ^ 63) then Ok n else Err (BadField r.at)

-- the number of an entry of a stream
unfoldable pub read_first : Rest → Result (ℕ × Rest) CodecFault
read_first r = do
  n ← read_number w64 r
  if nat_le n.0 (2 ^ 62) then Ok n else Err (BadField r.at)

-- whose it is: the tenant, the name, and what is left
unfoldable pub read_owner : Rest → Result (List ℕ × List ℕ × Rest) CodecFault
read_owner r = do
  t ← read_tenant r
  n ← read_name t.1
  Ok (t.0, n.0, n.1)

-- what an object of one version begins with: the tenant, the name, and what is left
unfoldable pub read_front : List ℕ → ℕ → Rest → Result (List ℕ × List ℕ × Rest) CodecFault
read_front letters version r = do
  m ← read_magic letters r
  v ← read_version version m
  read_owner v
