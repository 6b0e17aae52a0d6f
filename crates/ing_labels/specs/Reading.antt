-- How far a selector text is read, byte by byte. For private clauses: the public ones speak of `IsSelectorText`.
use Rattle.std.specs.Prelude.{ℕ, ◌==◌, List, [], ◌∷◌, ◌++◌, Option, Some, None, if◌then◌else◌}
use Rattle.std.specs.Char.{encode_utf8}
use Rattle.ing_labels.specs.Names.{is_name_start, is_name_byte}
use Rattle.ing_labels.specs.Selectors.{Match, is_space}
use Rattle.std.specs.String.{string_bytes}
use Rattle.ing_labels.specs.declared.selector.MatchOp.{MatchOp}
use Rattle.ing_labels.specs.declared.selector.MatchOp.TheVariants.{Equals, Differs}
use Rattle.ing_labels.specs.declared.selector_reader.State.{State}
use Rattle.ing_labels.specs.declared.selector_reader.State.TheVariants as state

-- what is read so far
pub data Reading : Type 0 where
  -- white space
  Start : Reading
  -- the opening brace
  Opened : Reading
  -- whole matchers, with a comma after each, and a part of a name
  InName : List Match → List ℕ → Reading
  -- the same with a whole name
  Named : List Match → List ℕ → Reading
  -- and a `!`
  Bang : List Match → List ℕ → Reading
  -- and an operator
  Compared : List Match → List ℕ → MatchOp → Reading
  -- and a quote and a part of a value
  InValue : List Match → List ℕ → MatchOp → List ℕ → Reading
  -- and a backslash
  Escaped : List Match → List ℕ → MatchOp → List ℕ → Reading
  -- one whole matcher or more, apart by commas
  Matched : List Match → Reading
  -- and a comma
  Comma : List Match → Reading
  -- and the closing brace
  Closed : List Match → Reading

abbrev pub new_match : List ℕ → MatchOp → List ℕ → Match
new_match name op value = record { name = name; op = op; value = value }

-- what may follow a name
abbrev pub after_name : List Match → List ℕ → ℕ → Option Reading
after_name ms n c =
    if c == 61 then Some (Compared ms n Equals) else
    if c == 33 then Some (Bang ms n) else
    if is_space c then Some (Named ms n) else None

-- what the character after a backslash stands for
abbrev pub unescaped : ℕ → Option ℕ
unescaped c = if c == 92 then Some 92 else if c == 34 then Some 34 else if c == 110 then Some 10 else None

-- a value with what an escape stands for
abbrev pub unescape : Option ℕ → List Match → List ℕ → MatchOp → List ℕ → Option Reading
unescape None ms n op v = None
unescape (Some c) ms n op v = Some (InValue ms n op (v ++ c ∷ []))

-- what is read with the character c more, which these bytes spell
abbrev pub step_with : List ℕ → Reading → ℕ → Option Reading
step_with bytes Start c = if c == 123 then Some Opened else if is_space c then Some Start else None
step_with bytes Opened c =
    if is_name_start c then Some (InName [] bytes) else
    if c == 125 then Some (Closed []) else
    if is_space c then Some Opened else None
step_with bytes (InName ms n) c = if is_name_byte c then Some (InName ms (n ++ bytes)) else after_name ms n c
step_with bytes (Named ms n) c = after_name ms n c
step_with bytes (Bang ms n) c = if c == 61 then Some (Compared ms n Differs) else None
step_with bytes (Compared ms n op) c =
    if c == 34 then Some (InValue ms n op []) else
    if is_space c then Some (Compared ms n op) else None
step_with bytes (InValue ms n op v) c =
    if c == 34 then Some (Matched (ms ++ new_match n op v ∷ [])) else
    if c == 92 then Some (Escaped ms n op v) else
    if c == 10 then None else
    Some (InValue ms n op (v ++ bytes))
step_with bytes (Escaped ms n op v) c = unescape (unescaped c) ms n op v
step_with bytes (Matched ms) c =
    if c == 44 then Some (Comma ms) else
    if c == 125 then Some (Closed ms) else
    if is_space c then Some (Matched ms) else None
step_with bytes (Comma ms) c =
    if is_name_start c then Some (InName ms bytes) else
    if is_space c then Some (Comma ms) else None
step_with bytes (Closed ms) c = if is_space c then Some (Closed ms) else None

-- with one byte more
abbrev pub step : Reading → ℕ → Option Reading
step r b = step_with (b ∷ []) r b

-- with one character more
abbrev pub step_char : Reading → ℕ → Option Reading
step_char r c = step_with (encode_utf8 c) r c

-- with one byte more, where the bytes before it can be read
abbrev pub step_from : Option Reading → ℕ → Option Reading
step_from None b = None
step_from (Some r) b = step r b

-- with the bytes of a text more
abbrev pub run_from : Option Reading → List ℕ → Option Reading
run_from r [] = r
run_from r (b ∷ bs) = run_from (step_from r b) bs

-- what a state stands for
abbrev pub reading_of : State → Reading
reading_of state.Start = Start
reading_of state.Opened = Opened
reading_of (state.InName read name) = InName read.items (string_bytes name)
reading_of (state.Named read name) = Named read.items (string_bytes name)
reading_of (state.Bang read name) = Bang read.items (string_bytes name)
reading_of (state.Compared read name op) = Compared read.items (string_bytes name) op
reading_of (state.InValue read name op value) = InValue read.items (string_bytes name) op (string_bytes value)
reading_of (state.Escaped read name op value) = Escaped read.items (string_bytes name) op (string_bytes value)
reading_of (state.Matched read) = Matched read.items
reading_of (state.Comma read) = Comma read.items
reading_of (state.Closed read) = Closed read.items

-- what is read up to the next state, or not at all
abbrev pub readings_of : Option State → Option Reading
readings_of None = None
readings_of (Some s) = Some (reading_of s)

-- the matchers of a selector that is read whole
abbrev pub closed_of : Reading → Option (List Match)
closed_of (Closed ms) = Some ms
closed_of _ = None
