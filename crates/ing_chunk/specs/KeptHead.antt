-- What a head keeps beside its entries.
use Rattle.std.specs.Prelude.{◌≡◌, List, true}
use Rattle.ing_chunk.specs.declared.numbered.Numbered.{Numbered}
use Rattle.ing_chunk.specs.Chunks.{AreInOrder}
use Rattle.ing_chunk.specs.Kept.{IsKeptOf}
use Rattle.ing_chunk.specs.declared.head.Head.TheInside.{Inside}

abbrev pub head_entries : Inside → List Numbered
head_entries h = h.entries.items

-- it equals what computing it afresh gives, and where they are said to stand in order they do
pub record IsHead (h : Inside) : Type 0 where
  pub kept : IsKeptOf h.kept h.entries.items
  pub order : h.in_order ≡ true → AreInOrder h.entries.items
