-- What is counted of entries, one after another. For private clauses.
use Rattle.std.specs.Prelude.{◌≡◌, ◌+◌, ◌*◌, ◌<◌, ◌≤◌, ◌^◌, max, min, List, length}
use Rattle.ing_chunk.specs.declared.numbered.Numbered.{Numbered}
use Rattle.ing_chunk.specs.Chunks.{size_of_entries, least_of, greatest_of}
use Rattle.ing_relist.specs.declared.counted.Counted.{Counted}

-- these entries are counted behind others
pub record AddsTo (es : List Numbered) (old new : Counted) : Type 0 where
  pub count : new.count ≡ old.count + length es
  pub size : new.size ≡ old.size + size_of_entries es
  pub least : new.least ≡ min old.least (least_of es)
  pub greatest : new.greatest ≡ max old.greatest (greatest_of es)

-- so many entries have no greater size, and no stamp is above the last one
pub record IsSmall (c : Counted) : Type 0 where
  pub size : c.size ≤ c.count * 2 ^ 65
  pub least : c.least < 2 ^ 63

-- these entries are counted, and no others
pub record IsCountOf (es : List Numbered) (c : Counted) : Type 0 where
  pub count : c.count ≡ length es
  pub size : c.size ≡ size_of_entries es
  pub least : c.least ≡ least_of es
  pub greatest : c.greatest ≡ greatest_of es
