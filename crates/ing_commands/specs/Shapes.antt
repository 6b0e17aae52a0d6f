-- Which texts, arrays and objects stand where in a JSON value. Another shape is a bad command.
use Rattle.std.specs.Prelude.{ℕ, List, [], ◌∷◌, Bool, Option, None, Some, option_and_then, Result, Ok}
use Rattle.std.specs.Option.{ok_or}
use Rattle.serde_json.specs.Data.{Data, Items, no_items, item, Members}
use Rattle.serde_json.specs.Find.{get, as_array, as_bool, as_number, as_object, as_str, as_u64}
use Rattle.ing_refusals.specs.Results.{◌>>=◌}
use Rattle.ing_commands.specs.declared.fault.LineFault.{LineFault}
use Rattle.ing_commands.specs.declared.fault.LineFault.TheVariants.{BadCommand}

-- the text that a value is
abbrev pub text_of : Data → Result (List ℕ) LineFault
text_of d = ok_or (as_str d) BadCommand

-- the member of this name, a text; other members are ignored
abbrev pub text_at : List ℕ → Data → Result (List ℕ) LineFault
text_at name d = ok_or (option_and_then as_str (get name d)) BadCommand

-- the text that a value is; where there is none, this
abbrev pub text_of_or : List ℕ → Option Data → Result (List ℕ) LineFault
text_of_or absent None = Ok absent
text_of_or absent (Some d) = text_of d

-- the member of this name, a text, which may be absent
abbrev pub text_or : List ℕ → List ℕ → Data → Result (List ℕ) LineFault
text_or name absent d = text_of_or absent (get name d)

-- the text that a value is, where there is one
abbrev pub maybe_text : Option Data → Result (Option (List ℕ)) LineFault
maybe_text None = Ok None
maybe_text (Some d) = text_of d >>= λ text. Ok (Some text)

-- the member of this name, a text, which may be absent and is then none
abbrev pub maybe_text_at : List ℕ → Data → Result (Option (List ℕ)) LineFault
maybe_text_at name d = maybe_text (get name d)

-- the number that a value is, an integer from 0 to 2^64-1
abbrev pub number_of : Data → Option ℕ
number_of d = option_and_then as_u64 (as_number d)

-- the same as `text_at`, such a number
abbrev pub number_at : List ℕ → Data → Result ℕ LineFault
number_at name d = ok_or (option_and_then number_of (get name d)) BadCommand

-- the same, an array
abbrev pub array_at : List ℕ → Data → Result Items LineFault
array_at name d = ok_or (option_and_then as_array (get name d)) BadCommand

-- the same, an object
abbrev pub object_at : List ℕ → Data → Result Members LineFault
object_at name d = ok_or (option_and_then as_object (get name d)) BadCommand

-- the flag that a value is; where there is none, this
abbrev pub flag_of : Bool → Option Data → Result Bool LineFault
flag_of absent None = Ok absent
flag_of absent (Some d) = ok_or (as_bool d) BadCommand

-- the member of this name, true or false, which may be absent
abbrev pub flag_at : List ℕ → Bool → Data → Result Bool LineFault
flag_at name absent d = flag_of absent (get name d)

-- what the elements are, if each has this shape
abbrev pub each : {A : Type 0} → (Data → Result A LineFault) → Items → Result (List A) LineFault
each shape no_items = Ok []
each shape (item d ds) = do
  first ← shape d
  others ← each shape ds
  Ok (first ∷ others)
