-- The lines of an input.
use Rattle.std.specs.Prelude.{◌≡◌, ℕ, ◌<◌, ◌≤◌, Bool, true, false, List, [], ◌∷◌, ◌++◌, length, ◌==◌, if◌then◌else◌, Option, Some, None, ⊤}
use Rattle.ing_session.specs.declared.lines.NextLine.{NextLine}
use Rattle.ing_session.specs.declared.lines.NextLine.TheVariants.{Line, TooLong, End}
use Rattle.ing_session.specs.Parts.{HasNoFeed, max_line}

-- a byte is the first of the line that comes after it; where none comes, it is a line of its own
abbrev pub onto : ℕ → List (List ℕ) → List (List ℕ)
onto byte [] = (byte ∷ []) ∷ []
onto byte (line ∷ lines) = (byte ∷ line) ∷ lines

-- The lines of an input. A line feed (10) ends a line, so the last line may have one or not, and nothing
-- has no line.
abbrev pub lines_of : List ℕ → List (List ℕ)
lines_of [] = []
lines_of (byte ∷ bytes) = if byte == 10 then [] ∷ lines_of bytes else onto byte (lines_of bytes)

-- a line as it stands before another
abbrev pub with_feed : List ℕ → List ℕ
with_feed line = line ++ 10 ∷ []

-- The first line of old, and what is left of it. A line feed ended the line; or the input did, which is seen to be at its
-- end (at_end).
abbrev pub EndsLine : List ℕ → List ℕ → Bool → List ℕ → Type 0
EndsLine old new false line = old ≡ line ++ 10 ∷ new
EndsLine old new true line = (old ≡ line) × (0 < length line) × (new ≡ [])

-- what is said of the bytes that were left before a call and of those after it: it took the first line, which is kept if it
-- is no longer than max_line; at the end there was none
abbrev pub TakesFirst : List ℕ → List ℕ → Bool → NextLine → List ℕ → Type 0
TakesFirst old new at_end Line line = HasNoFeed line × EndsLine old new at_end line × (length line ≤ max_line)
TakesFirst old new at_end TooLong line =
    (long : List ℕ) × HasNoFeed long × EndsLine old new at_end long × (max_line < length long) × (line ≡ [])
TakesFirst old new at_end End line = (old ≡ []) × (new ≡ []) × (line ≡ [])

-- the same where the bytes are known; known bytes stay known
abbrev pub TakesLine : Option (List ℕ) → Option (List ℕ) → Bool → NextLine → List ℕ → Type 0
TakesLine None new at_end next line = ⊤
TakesLine (Some old) None at_end next line = ⊥
TakesLine (Some old) (Some new) at_end next line = TakesFirst old new at_end next line
