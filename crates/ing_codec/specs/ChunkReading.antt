-- A chunk read from front to back, up to the first fault (own).
use Rattle.std.specs.Prelude.{ℕ, zero, suc, ◌+◌, ◌-◌, ◌^◌, Bool, true, not, ◌&&◌, ◌==◌, nat_lt, nat_le, List, [], ◌∷◌, ◌++◌, length, codes, slice_get, Option, Some, None, Result, Ok, Err, if◌then◌else◌}
use Rattle.std.specs.Int.{w32}
use Rattle.ing_refusals.specs.Results.{◌>>=◌}
use Rattle.ing_chunk.specs.declared.numbered.Numbered.{Numbered}
use Rattle.ing_chunk.specs.Chunks.{comes_before}
use Rattle.ing_codec.specs.declared.chunk_reading.Part.{Part}
use Rattle.ing_codec.specs.declared.fault.CodecFault.{CodecFault}
use Rattle.ing_codec.specs.declared.fault.CodecFault.TheVariants.{BadField, OutOfOrder, Trailing}
use Rattle.ing_codec.specs.declared.version.Version.{Version}
use Rattle.ing_codec.specs.Fields.{Rest, whole, read_number, read_line, read_meta, read_stamp, read_first, read_magic, read_known_version, read_owner}
use Rattle.ing_chunk.specs.Parts.{is_taken}
use Rattle.ing_codec.specs.ChunkObjects.{ChunkObject}

-- the number lies in the part
abbrev pub is_in_part : Part → ℕ → Bool
is_in_part p n = nat_le (p.first + p.start) n && nat_lt n (p.first + p.start + p.count)

-- and none of the entries before has it
abbrev pub is_free : Part → List Numbered → ℕ → Bool
is_free p before n = is_in_part p n && not (is_taken n before)

abbrev pub is_above : Option Numbered → Numbered → Bool
is_above None e = true
is_above (Some last) e = comes_before last e

-- the entry is above the last of those before it
abbrev pub goes_on : List Numbered → Numbered → Bool
goes_on before e = is_above (slice_get before (length before - 1)) e

abbrev pub numbered : ℕ → ℕ → List ℕ → Numbered
numbered n stamp line = record { number = n; entry = record { stamp = stamp; line = line } }

abbrev pub in_turn : List Numbered → Numbered → Rest → Result (Numbered × Rest) CodecFault
in_turn before e r = if goes_on before e then Ok (e, r) else Err OutOfOrder

-- one entry, after those before it in its block: what is behind its line is read before its order is tested
unfoldable pub read_entry : Part → List Numbered → Rest → Result (Numbered × Rest) CodecFault
read_entry p before r = do
  o ← read_number w32 r
  if is_free p before (p.first + o.0) then (do
    s ← read_stamp o.1
    l ← read_line s.1
    m ← read_meta p.version l.1
    in_turn before (numbered (p.first + o.0) s.0 l.0) m.1)
      else Err (BadField r.at)

-- so many more entries
unfoldable pub read_entries : Part → ℕ → List Numbered → Rest → Result (List Numbered × Rest) CodecFault
read_entries p zero before r = Ok (before, r)
read_entries p (suc k) before r = do
  e ← read_entry p before r
  read_entries p k (before ++ e.0 ∷ []) e.1

abbrev pub part : Version → ℕ → ℕ → ℕ → Part
part v first start count = record { version = v; first = first; start = start; count = count }

-- a block has an entry, and no number reaches 2^62, and no count 2^32
abbrev pub is_count : ℕ → ℕ → ℕ → Bool
is_count first start n = not (n == 0) && (nat_le (first + start + n) (2 ^ 62) && nat_lt (start + n) (2 ^ 32))

-- one block, after so many entries of earlier blocks
unfoldable pub read_block : Version → ℕ → ℕ → Rest → Result (List Numbered × Rest) CodecFault
read_block v first start r = do
  n ← read_number w32 r
  if is_count first start n.0 then read_entries (part v first start n.0) n.0 [] n.1 else Err (BadField r.at)

-- so many more blocks, after so many entries
unfoldable pub read_blocks : Version → ℕ → ℕ → ℕ → List (List Numbered) → Rest → Result (List (List Numbered) × Rest) CodecFault
read_blocks v first zero start before r = Ok (before, r)
read_blocks v first (suc k) start before r = do
  b ← read_block v first start r
  read_blocks v first k (start + length b.0) (before ++ b.0 ∷ []) b.1

-- how many blocks: one or more
unfoldable pub read_block_count : Rest → Result (ℕ × Rest) CodecFault
read_block_count r = do
  n ← read_number w32 r
  if n.0 == 0 then Err (BadField r.at) else Ok n

-- nothing is left
abbrev pub ended : {A : Type 0} → A → Rest → Result A CodecFault
ended x r = if length r.bytes == 0 then Ok x else Err Trailing

abbrev pub chunk_object : List ℕ → List ℕ → ℕ → List (List Numbered) → ChunkObject
chunk_object tenant name first blocks = record { tenant = tenant; name = name; first = first; blocks = blocks }

-- what a chunk begins with: its version, and whose it is
unfoldable pub read_chunk_front : Rest → Result (Version × (List ℕ × List ℕ × Rest)) CodecFault
read_chunk_front r = do
  m ← read_magic (codes "INGC") r
  v ← read_known_version m
  o ← read_owner v.1
  Ok (v.0, o)

-- all of the bytes, in one version or the other: the chunk, or the first fault
unfoldable pub read_chunk : List ℕ → Result ChunkObject CodecFault
read_chunk bytes = do
  h ← read_chunk_front (whole bytes)
  f ← read_first h.1.2
  k ← read_block_count f.1
  b ← read_blocks h.0 f.0 k.0 0 [] k.1
  ended (chunk_object h.1.0 h.1.1 f.0 b.0) b.1
