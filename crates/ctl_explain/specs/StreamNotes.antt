-- Members that the streams of a push do not have (own).
use Rattle.std.specs.Prelude.{ℕ, suc, List, [], ◌∷◌, ◌++◌, codes, bytes_eq, Bool, ◌||◌, if◌then◌else◌, Option, Some, None, Result, Ok, Err}
use Rattle.serde_json.specs.Data.{Data, Items, no_items, item, Members, no_members, member}
use Rattle.serde_json.specs.Find.{as_object}
use Rattle.ing_commands.specs.declared.fault.LineFault.{LineFault}
use Rattle.ing_commands.specs.Shapes.{array_at, text_at}

-- a stream of a push has a member of this name
abbrev pub is_member : List ℕ → Bool
is_member name = bytes_eq name (codes "stream") || bytes_eq name (codes "values")

-- the names of the members that no stream has, in order, each with the place of its stream
abbrev pub strangers : ℕ → Members → List (ℕ × List ℕ)
strangers at no_members = []
strangers at (member name d ms) =
    if is_member name then strangers at ms else (at, name) ∷ strangers at ms

abbrev pub strangers_by : ℕ → Option Members → List (ℕ × List ℕ)
strangers_by at None = []
strangers_by at (Some ms) = strangers at ms

-- those of the stream at a place
abbrev pub strangers_in : ℕ → Data → List (ℕ × List ℕ)
strangers_in at d = strangers_by at (as_object d)

-- those of streams, from this place on
abbrev pub strangers_from : ℕ → Items → List (ℕ × List ℕ)
strangers_from at no_items = []
strangers_from at (item d ds) = strangers_in at d ++ strangers_from (suc at) ds

abbrev pub strangers_of_push : Result (List ℕ) LineFault → Result Items LineFault
    → List (ℕ × List ℕ)
strangers_of_push (Ok cmd) (Ok ds) = if bytes_eq cmd (codes "push") then strangers_from 0 ds else []
strangers_of_push (Ok cmd) (Err fault) = []
strangers_of_push (Err fault) ds = []

-- those of the object that a line is, where it is a push
abbrev pub strangers_of : Data → List (ℕ × List ℕ)
strangers_of d = strangers_of_push (text_at (codes "cmd") d) (array_at (codes "streams") d)
