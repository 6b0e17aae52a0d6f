-- What the writing of an entry asks of it. For private clauses.
use Rattle.std.specs.Prelude.{◌≡◌, true, ℕ, ◌+◌, ◌<◌, ◌≤◌, ◌^◌, List, All, length}
use Rattle.ing_rows.specs.Texts.{is_tenant}
use Rattle.ing_chunk.specs.declared.numbered.Numbered.{Numbered}
use Rattle.ing_codec.specs.Fields.{is_name}
use Rattle.ing_codec.specs.ChunkObjects.{ChunkObject, IsNumbered}

-- the offset from the first number of the chunk and the length of the line have four bytes each
pub record IsWritable (first : ℕ) (e : Numbered) : Type 0 where
  pub low : first ≤ e.number
  pub high : e.number < first + 2 ^ 32
  pub line : length e.entry.line < 2 ^ 32

-- and so has the count of the entries of a block
pub record IsBlockWritable (first : ℕ) (b : List Numbered) : Type 0 where
  pub entries : All (IsWritable first) b
  pub count : length b < 2 ^ 32

-- what is known of a chunk that is lent to be written: all but the order, the stamps and the UTF-8 of its
-- entries, which their types keep
pub record IsLent (o : ChunkObject) : Type 0 where
  pub tenant : is_tenant o.tenant ≡ true
  pub name : is_name o.name ≡ true
  pub numbered : IsNumbered o
