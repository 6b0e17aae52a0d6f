-- How a `Labels` holds its map.
use Rattle.std.specs.Prelude.{◌≡◌, ℕ, List, ◌∷◌, drop}
use Rattle.std.specs.FinMap.{entries, from_sorted}
use Rattle.ing_labels.specs.Labels.{LabelMap, IsLabelSet}
use Rattle.ing_labels.specs.Canonical.{canonical_of}
use Rattle.ing_labels.specs.Pieces.{named_texts, pairs_of}
use Rattle.ing_labels.specs.declared.label_set.Labels.TheInside.{Inside}

-- the texts that are held for a map: its canonical name, and each name and its value
abbrev pub pieces_of : LabelMap → List (List ℕ)
pieces_of m = canonical_of m ∷ named_texts (entries m)

-- the map that the texts after the first spell
abbrev pub held_map : Inside → LabelMap
held_map a = from_sorted (pairs_of (drop 1 a.pieces.value))

-- these are the texts of a map, which is the labels of a stream
pub record IsHeld (a : Inside) : Type 0 where
  pub pieces : a.pieces.value ≡ pieces_of (held_map a)
  pub labels : IsLabelSet (held_map a)
