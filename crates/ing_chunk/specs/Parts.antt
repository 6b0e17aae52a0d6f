-- The numbers that entries of a chunk have: consecutive parts of them, each number once, and lines that are not
-- too long (own).
use Rattle.std.specs.Prelude.{◌≡◌, ◌≢◌, ℕ, ◌+◌, ◌<◌, ◌≤◌, Bool, false, ◌==◌, List, [], ◌∷◌, length}
use Rattle.std.specs.List.{list_any, AllByRecursion}
use Rattle.ing_rows.specs.declared.entry.Entry.{Entry}
use Rattle.ing_chunk.specs.declared.numbered.Numbered.{Numbered}

-- the most bytes of a line
abbrev pub max_line : ℕ
max_line = 262144

-- a line that is not too long
abbrev pub IsShort : Entry → Type 0
IsShort e = length e.line ≤ max_line

-- some entry has this number
abbrev pub is_taken : ℕ → List Numbered → Bool
is_taken n es = list_any (λ e. e.number == n) es

-- no number is there twice
abbrev pub AreApart : List Numbered → Type 0
AreApart [] = Unit {0}
AreApart (e ∷ es) = (is_taken e.number es ≡ false) × AreApart es

-- an entry of the part of the numbers that begins here, with a line that is not too long
pub record IsWithin (from count : ℕ) (e : Numbered) : Type 0 where
  pub low : from ≤ e.number
  pub high : e.number < from + count
  pub line : IsShort e.entry

-- a block whose entries have exactly the numbers from one on, as many as they are: each is one of these,
-- and none twice
pub record IsPart (from : ℕ) (b : List Numbered) : Type 0 where
  pub some : b ≢ []
  pub within : AllByRecursion (IsWithin from (length b)) b
  pub apart : AreApart b

-- blocks of which each goes on where the one before it ended
abbrev pub AreParts : ℕ → List (List Numbered) → Type 0
AreParts from [] = Unit {0}
AreParts from (b ∷ bs) = IsPart from b × AreParts (from + length b) bs

-- entries that have the numbers from one on, one after another, with lines that are not too long
abbrev pub AreNumbered : ℕ → List Numbered → Type 0
AreNumbered from [] = Unit {0}
AreNumbered from (e ∷ es) = (e.number ≡ from) × IsShort e.entry × AreNumbered (from + 1) es
