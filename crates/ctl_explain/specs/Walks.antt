-- How the member at fault is looked for: the first one in the order of the tests. For private clauses; the public ones speak of
-- `IsAtFault`.
use Rattle.std.specs.Prelude.{ℕ, ◌+◌, List, [], ◌∷◌, codes, bytes_eq, Bool, false, ◌==◌, if◌then◌else◌, Option, None, Some, option_map, option_and_then, Result, Ok, Err}
use Rattle.std.specs.Option.{option_or, unwrap_or}
use Rattle.serde_json.specs.Data.{Data, Items, no_items, item, Members, no_members, member}
use Rattle.serde_json.specs.Find.{get, as_array, as_object}
use Rattle.ing_refusals.specs.Refusals.{refusal_number}
use Rattle.ing_commands.specs.declared.fault.LineFault.{LineFault}
use Rattle.ing_commands.specs.Faults.{refusal_of}
use Rattle.ing_commands.specs.Shapes.{text_at}
use Rattle.ctl_explain.specs.declared.member.Field.{Field}
use Rattle.ctl_explain.specs.declared.member.Field.TheVariants as field
use Rattle.ctl_explain.specs.declared.member.Part.{Part}
use Rattle.ctl_explain.specs.declared.member.Part.TheVariants as part
use Rattle.ctl_explain.specs.declared.member.Member.{Member}
use Rattle.ctl_explain.specs.declared.member.Member.TheVariants.{Own, OfStream}
use Rattle.ctl_explain.specs.Members.{Test, field_test, part_test, label_test, value_test}

-- the test ended with this fault
abbrev pub is_fault : LineFault → Test → Bool
is_fault fault (Ok _) = false
is_fault fault (Err found) = refusal_number (refusal_of found) == refusal_number (refusal_of fault)

abbrev pub value_has : LineFault → Data → Bool
value_has fault d = is_fault fault (value_test d)

abbrev pub label_has : LineFault → Data → Bool
label_has fault d = is_fault fault (label_test d)

-- the place of the first element that passes, counted from this number
abbrev pub first_item : (Data → Bool) → ℕ → Items → Option ℕ
first_item p at no_items = None
first_item p at (item d ds) = if p d then Some at else first_item p (at + 1) ds

abbrev pub first_label : (Data → Bool) → ℕ → Members → Option ℕ
first_label p at no_members = None
first_label p at (member name d ms) = if p d then Some at else first_label p (at + 1) ms

-- ---- members of the line's object

abbrev pub first_field : LineFault → List Field → Data → Option Member
first_field fault [] d = None
first_field fault (f ∷ fs) d = if is_fault fault (field_test f d) then Some (Own f) else first_field fault fs d

-- ---- parts of a stream

abbrev pub items_at : List ℕ → Data → Items
items_at name d = unwrap_or (option_and_then as_array (get name d)) no_items

abbrev pub members_at : List ℕ → Data → Members
members_at name d = unwrap_or (option_and_then as_object (get name d)) no_members

abbrev pub label_found : LineFault → Data → Option Part
label_found fault d = option_map (λ n. part.Label n) (first_label (label_has fault) 0 (members_at (codes "stream") d))

abbrev pub value_found : LineFault → Data → Option Part
value_found fault d = option_map (λ n. part.Value n) (first_item (value_has fault) 0 (items_at (codes "values") d))

abbrev pub first_part : LineFault → Data → Option Part
first_part fault d =
    if is_fault fault (part_test part.Labels d) then Some part.Labels
    else option_or (label_found fault d) (
    if is_fault fault (part_test part.Values d) then Some part.Values
    else value_found fault d)

-- ---- streams

abbrev pub first_of_streams : LineFault → ℕ → Items → Option Member
first_of_streams fault at no_items = None
first_of_streams fault at (item d ds) = option_or (option_map (λ p. OfStream at p) (first_part fault d)) (first_of_streams fault (at + 1) ds)

-- ---- the command

-- the members of the line's object that a command has
abbrev pub fields_of : List ℕ → List Field
fields_of cmd =
    if bytes_eq cmd (codes "push") then field.Tenant ∷ field.Now ∷ field.Streams ∷ []
    else if bytes_eq cmd (codes "sweep") then field.Now ∷ []
    else if bytes_eq cmd (codes "flush") then field.Forced ∷ []
    else if bytes_eq cmd (codes "gauges") then field.Tenant ∷ []
    else if bytes_eq cmd (codes "board") then []
    else if bytes_eq cmd (codes "checkpoint") then []
    else if bytes_eq cmd (codes "query") then field.Tenant ∷ field.Query ∷ field.Start ∷ field.End ∷ field.Limit ∷ field.Direction ∷ field.After ∷ field.Pages ∷ []
    else if bytes_eq cmd (codes "series") then field.Tenant ∷ field.Selector ∷ []
    else if bytes_eq cmd (codes "labels") then field.Tenant ∷ field.Selector ∷ field.Name ∷ []
    else field.Cmd ∷ []

-- a push has streams too
abbrev pub rest_of : LineFault → List ℕ → Data → Option Member
rest_of fault cmd d = if bytes_eq cmd (codes "push") then first_of_streams fault 0 (items_at (codes "streams") d) else None

abbrev pub first_of_command : LineFault → Data → Result (List ℕ) LineFault → Option Member
first_of_command fault d (Ok cmd) = option_or (first_field fault (fields_of cmd) d) (rest_of fault cmd d)
first_of_command fault d (Err _) = first_field fault (field.Cmd ∷ []) d

unfoldable pub first_member : LineFault → Data → Option Member
first_member fault d = first_of_command fault d (text_at (codes "cmd") d)
