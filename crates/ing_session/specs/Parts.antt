-- The front of a line, as it comes in parts.
use Rattle.std.specs.Prelude.{◌≡◌, ◌≢◌, ℕ, ◌<◌, ◌≤◌, List, [], ◌∷◌, ◌++◌, length, Bool, true, false}
use Rattle.std.specs.List.{AllByRecursion}
use Rattle.ing_session.specs.declared.lines.Part.{Part}
use Rattle.ing_session.specs.declared.lines.Part.TheVariants.{Ended, Open}

-- how many bytes a line may have, its line feed not counted
abbrev pub max_line : ℕ
max_line = 16777216

-- no byte is a line feed
abbrev pub HasNoFeed : List ℕ → Type 0
HasNoFeed bytes = AllByRecursion (λ byte. byte ≢ 10) bytes

-- what was taken of a line is kept while it is no longer than max_line, and then not at all
abbrev pub Holds : Bool → List ℕ → List ℕ → Type 0
Holds false line taken = (line ≡ taken) × (length taken ≤ max_line)
Holds true line taken = (line ≡ []) × (max_line < length taken)

-- after the bytes taken, a line feed ended the line, or all that was there belongs to it
abbrev pub TakesPart : List ℕ → List ℕ → List ℕ → List ℕ → Part → Type 0
TakesPart taken old new line (Ended long) = (front : List ℕ) × HasNoFeed front × (old ≡ front ++ 10 ∷ new) × Holds long line (taken ++ front)
TakesPart taken old new line (Open long) = HasNoFeed old × (new ≡ []) × Holds long line (taken ++ old)
