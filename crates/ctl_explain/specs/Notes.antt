-- Members that a command does not have (own).
use Rattle.std.specs.Prelude.{ℕ, List, [], ◌∷◌, codes, bytes_eq, Bool, true, ◌||◌, if◌then◌else◌, Option, Some, None, Result, Ok, Err}
use Rattle.std.specs.List.{list_any}
use Rattle.serde_json.specs.Data.{Data, Members, no_members, member}
use Rattle.serde_json.specs.Find.{as_object}
use Rattle.ing_commands.specs.declared.fault.LineFault.{LineFault}
use Rattle.ing_commands.specs.Shapes.{text_at}
use Rattle.ctl_explain.specs.declared.member.Field.{Field}
use Rattle.ctl_explain.specs.declared.member.Field.TheVariants as field
use Rattle.ctl_explain.specs.Members.{field_name}
use Rattle.ctl_explain.specs.Walks.{fields_of}

-- the name of a member of a command; where the command is none, which has `cmd` alone, any name may be one
abbrev pub may_be : Field → List ℕ → Bool
may_be field.Cmd name = true
may_be f name = bytes_eq (field_name f) name

abbrev pub has_member : List ℕ → List ℕ → Bool
has_member cmd name = bytes_eq name (codes "cmd") || list_any (λ f. may_be f name) (fields_of cmd)

-- the names of the members that a command does not have, in order
abbrev pub strangers : List ℕ → Members → List (List ℕ)
strangers cmd no_members = []
strangers cmd (member name d ms) = if has_member cmd name then strangers cmd ms else name ∷ strangers cmd ms

abbrev pub strangers_by : Result (List ℕ) LineFault → Option Members → List (List ℕ)
strangers_by (Ok cmd) (Some ms) = strangers cmd ms
strangers_by (Ok cmd) None = []
strangers_by (Err fault) ms = []

-- those of the object that a line is
abbrev pub strangers_of : Data → List (List ℕ)
strangers_of d = strangers_by (text_at (codes "cmd") d) (as_object d)
