-- The lines of an input.
use Rattle.std.specs.Prelude.{◌≡◌, ◌≢◌, ℕ, ◌==◌, ◌<◌, ◌≤◌, if◌then◌else◌, List, [], ◌∷◌, ◌++◌, length, OnSome, Bool, true, false, Option, Some}
use Rattle.std.specs.List.{AllByRecursion}
use Rattle.std.specs.Io.KnownBytes.{Consumes, IsAtEnd}
use Rattle.ctl_feed.specs.declared.lines.NextLine.{NextLine}
use Rattle.ctl_feed.specs.declared.lines.NextLine.TheVariants.{Line, TooLong, End}
use Rattle.ctl_feed.specs.declared.lines.Part.{Part}
use Rattle.ctl_feed.specs.declared.lines.Part.TheVariants.{Ended, Open, AtEnd}

-- a byte is the first of the line that comes after it; where none comes, it is a line of its own
abbrev pub onto : ℕ → List (List ℕ) → List (List ℕ)
onto byte [] = (byte ∷ []) ∷ []
onto byte (line ∷ lines) = (byte ∷ line) ∷ lines

-- The lines of an input. A line feed (10) ends a line, so the last line may have one or not, and nothing has no line.
abbrev pub lines_of : List ℕ → List (List ℕ)
lines_of [] = []
lines_of (byte ∷ bytes) = if byte == 10 then [] ∷ lines_of bytes else onto byte (lines_of bytes)

-- a line as it stands before another
abbrev pub with_feed : List ℕ → List ℕ
with_feed line = line ++ 10 ∷ []

-- the first line was taken of some bytes, and kept if it has no more than most bytes, or there was none; these are left
abbrev pub TakesLine : ℕ → List ℕ → Option (List ℕ) → List ℕ → NextLine → Type 0
TakesLine most old new line Line = (rest : List ℕ) × (new ≡ Some rest) × (lines_of old ≡ line ∷ lines_of rest)
TakesLine most old new line TooLong = (long : List ℕ) × (rest : List ℕ) × (new ≡ Some rest) × (lines_of old ≡ long ∷ lines_of rest) × (most < length long)
TakesLine most old new line End = (lines_of old ≡ []) × (new ≡ Some [])

-- ---- for private clauses

-- no byte is a line feed
abbrev pub HasNoFeed : List ℕ → Type 0
HasNoFeed bytes = AllByRecursion (λ byte. byte ≢ 10) bytes

-- what was taken of a line is kept while it is no longer than may be, and then not at all
abbrev pub Holds : ℕ → Bool → List ℕ → List ℕ → Type 0
Holds most false line taken = (line ≡ taken) × (length taken ≤ most)
Holds most true line taken = (line ≡ []) × (most < length taken)

-- one more part of a line is kept as what was taken before
abbrev pub KeepsPart : ℕ → Bool → List ℕ → Bool → List ℕ → List ℕ → Type 0
KeepsPart most was old long new part = (taken : List ℕ) → Holds most was old taken → Holds most long new (taken ++ part)

-- a part of a line was taken of the bytes that are known: up to its line feed, or all that was at hand, or there was none
abbrev pub TakesPart : ℕ → Option (List ℕ) → Option (List ℕ) → Bool → List ℕ → List ℕ → Part → Type 0
TakesPart most left rest was old new (Ended long) = (part : List ℕ) × HasNoFeed part × Consumes left rest (part ++ 10 ∷ []) × KeepsPart most was old long new part
TakesPart most left rest was old new (Open long) = (part : List ℕ) × HasNoFeed part × Consumes left rest part × KeepsPart most was old long new part
TakesPart most left rest was old new AtEnd = Consumes left rest [] × OnSome left (IsAtEnd rest) × (new ≡ old)
