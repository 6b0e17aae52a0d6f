-- What is kept of entries: it equals what computing it afresh gives.
use Rattle.std.specs.Prelude.{◌≡◌, ◌*◌, ◌≤◌, ◌^◌, List, length}
use Rattle.ing_chunk.specs.declared.numbered.Numbered.{Numbered}
use Rattle.ing_chunk.specs.declared.kept.Kept.{Kept}
use Rattle.ing_chunk.specs.Chunks.{AreStamps, size_of_entries, least_of, greatest_of}

-- how many they are, their size, their least and greatest stamp
pub record IsKeptOf (kept : Kept) (es : List Numbered) : Type 0 where
  pub count : kept.count ≡ length es
  pub size : kept.size ≡ size_of_entries es
  pub least : kept.least ≡ least_of es
  pub greatest : kept.greatest ≡ greatest_of es
  pub small : kept.size ≤ kept.count * 2 ^ 65
  pub stamps : AreStamps es
