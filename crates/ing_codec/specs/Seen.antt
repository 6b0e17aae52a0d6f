-- What is kept beside the entries of a block while they are read. For private clauses.
use Rattle.std.specs.Prelude.{◌≡◌, ◌+◌, ◌-◌, ◌≤◌, ℕ, Bool, false, nat_lt, List, length, slice_index_or, if◌then◌else◌}
use Rattle.std.specs.BTreeSet.{contains}
use Rattle.std.specs.Ordering.{nat_cmp}
use Rattle.ing_chunk.specs.declared.numbered.Numbered.{Numbered}
use Rattle.ing_chunk.specs.Parts.{is_taken}
use Rattle.ing_codec.specs.declared.chunk_reading.Part.{Part}
use Rattle.ing_codec.specs.declared.chunk_reading.Seen.{Seen}

-- the number is kept, by its flag or in the set
abbrev pub is_seen : Seen → ℕ → Bool
is_seen s n = if nat_lt (n - s.from) (length s.near.items) then slice_index_or s.near.items (n - s.from) false else contains nat_cmp s.far n

-- of the numbers from the part's first on, those of these entries are kept, and no other
pub record HasSeen (p : Part) (s : Seen) (es : List Numbered) : Type 0 where
  pub from : s.from ≡ p.first + p.start
  pub numbers : (n : ℕ) → s.from ≤ n → is_seen s n ≡ is_taken n es
