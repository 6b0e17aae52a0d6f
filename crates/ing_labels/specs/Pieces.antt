-- Texts one after another in one text.
use Rattle.std.specs.Prelude.{◌≡◌, ◌≤◌, ℕ, List, [], ◌∷◌, length}
use Rattle.std.specs.List.{slice_range, flat_map}
use Rattle.std.specs.Str.{IsCharBoundary}
use Rattle.ing_labels.specs.Labels.{Pair}

-- what lies from one place to the first of these ends, from there to the next, and so on
abbrev pub pieces_from : List ℕ → ℕ → List ℕ → List (List ℕ)
pieces_from text from [] = []
pieces_from text from (end ∷ ends) = slice_range text from end ∷ pieces_from text end ends

-- the ends rise from this place on to the end of the text, which may be cut at each of them
abbrev pub IsCut : List ℕ → ℕ → List ℕ → Type 0
IsCut text from [] = from ≡ length text
IsCut text from (end ∷ ends) = (from ≤ end) × IsCharBoundary text end × IsCut text end ends

-- the names and values of pairs, in turn
abbrev pub named_texts : List Pair → List (List ℕ)
named_texts = flat_map (λ p. p.0 ∷ p.1 ∷ [])

-- the pairs of names and values that come in turn
abbrev pub pairs_of : List (List ℕ) → List Pair
pairs_of [] = []
pairs_of (name ∷ []) = []
pairs_of (name ∷ value ∷ texts) = (name, value) ∷ pairs_of texts
