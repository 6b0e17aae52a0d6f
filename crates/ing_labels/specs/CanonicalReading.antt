-- How far a canonical name is read, byte by byte. For private clauses: the public ones speak of `canonical_of`.
use Rattle.std.specs.Prelude.{ℕ, Bool, true, false, ◌==◌, nat_lt, ◌&&◌, List, [], ◌∷◌, ◌++◌, length, slice_index, Option, Some, None, if◌then◌else◌}
use Rattle.std.specs.Char.{encode_utf8}
use Rattle.std.specs.FinMap.{put}
use Rattle.std.specs.String.{string_bytes}
use Rattle.ing_labels.specs.Names.{is_name_start, is_name_byte}
use Rattle.ing_labels.specs.Labels.{Pair, name_order}
use Rattle.ing_labels.specs.Texts.{entry_texts}
use Rattle.ing_labels.specs.Reading.{unescaped}
use Rattle.ing_labels.specs.declared.canonical_reader.State.{State}
use Rattle.ing_labels.specs.declared.canonical_reader.State.TheVariants as state

-- what is read so far: whole pairs, and a part of what follows them
pub data Reading : Type 0 where
  -- nothing
  Start : Reading
  -- the opening brace, and pairs with a comma and a space after each
  Next : List Pair → Reading
  -- and a part of a name, and whether it lies above the last name whatever follows
  InName : List Pair → List ℕ → Bool → Reading
  -- and a name and `=`
  Compared : List Pair → List ℕ → Reading
  -- and a quote and a part of a value
  InValue : List Pair → List ℕ → List ℕ → Reading
  -- and a backslash
  Escaped : List Pair → List ℕ → List ℕ → Reading
  -- one pair or more, apart by a comma and a space
  Matched : List Pair → Reading
  -- and a comma
  Comma : List Pair → Reading
  -- and the closing brace
  Closed : List Pair → Reading

-- the last name, or the empty text
abbrev pub last_name : List Pair → List ℕ
last_name [] = []
last_name (p ∷ []) = p.0
last_name (p ∷ q ∷ ps) = last_name (q ∷ ps)

-- whether a name lies above the last one with the byte c at this place, or can still do so
abbrev pub above_with : Bool → List ℕ → ℕ → ℕ → Option Bool
above_with above last place c =
    if above then Some true else
    if nat_lt place (length last) then
    (if c == slice_index last place then Some false else if nat_lt (slice_index last place) c then Some true else None)
    else Some true

-- a longer name
abbrev pub in_name : List Pair → List ℕ → Option Bool → Option Reading
in_name ps n None = None
in_name ps n (Some above) = Some (InName ps n above)

-- a longer value
abbrev pub in_value : List Pair → List ℕ → List ℕ → Option ℕ → Option Reading
in_value ps n v None = None
in_value ps n v (Some c) = Some (InValue ps n (v ++ c ∷ []))

-- what is read with the character c more, which these bytes spell
abbrev pub step_with : List ℕ → Reading → ℕ → Option Reading
step_with bytes Start c = if c == 123 then Some (Next []) else None
step_with bytes (Next ps) c = if is_name_start c then in_name ps bytes (above_with false (last_name ps) 0 c) else None
step_with bytes (InName ps n above) c =
    if is_name_byte c then in_name ps (n ++ bytes) (above_with above (last_name ps) (length n) c) else
    if above && (c == 61) then Some (Compared ps n) else None
step_with bytes (Compared ps n) c = if c == 34 then Some (InValue ps n []) else None
step_with bytes (InValue ps n v) c =
    if c == 34 then (if length v == 0 then None else Some (Matched (put name_order n v ps))) else
    if c == 92 then Some (Escaped ps n v) else
    if c == 10 then None else
    Some (InValue ps n (v ++ bytes))
step_with bytes (Escaped ps n v) c = in_value ps n v (unescaped c)
step_with bytes (Matched ps) c = if c == 44 then Some (Comma ps) else if c == 125 then Some (Closed ps) else None
step_with bytes (Comma ps) c = if c == 32 then Some (Next ps) else None
step_with bytes (Closed ps) c = None

-- with one byte more
abbrev pub step : Reading → ℕ → Option Reading
step r b = step_with (b ∷ []) r b

-- with one character more
abbrev pub step_char : Reading → ℕ → Option Reading
step_char r c = step_with (encode_utf8 c) r c

-- with one byte more, where the bytes before it can be read
abbrev pub step_from : Option Reading → ℕ → Option Reading
step_from None b = None
step_from (Some r) b = step r b

-- with the bytes of a text more
abbrev pub run_from : Option Reading → List ℕ → Option Reading
run_from r [] = r
run_from r (b ∷ bs) = run_from (step_from r b) bs

-- what a state stands for
abbrev pub reading_of : State → Reading
reading_of state.Start = Start
reading_of (state.Next read) = Next (entry_texts read.entries)
reading_of (state.InName read name above) = InName (entry_texts read.entries) (string_bytes name) above
reading_of (state.Compared read name) = Compared (entry_texts read.entries) (string_bytes name)
reading_of (state.InValue read name value) = InValue (entry_texts read.entries) (string_bytes name) (string_bytes value)
reading_of (state.Escaped read name value) = Escaped (entry_texts read.entries) (string_bytes name) (string_bytes value)
reading_of (state.Matched read) = Matched (entry_texts read.entries)
reading_of (state.Comma read) = Comma (entry_texts read.entries)
reading_of (state.Closed read) = Closed (entry_texts read.entries)

-- what is read up to the next state, or not at all
abbrev pub readings_of : Option State → Option Reading
readings_of None = None
readings_of (Some s) = Some (reading_of s)

-- the pairs of a canonical name that is read whole
abbrev pub closed_of : Reading → Option (List Pair)
closed_of (Closed ps) = Some ps
closed_of _ = None
