-- What is tested of each member of a command by itself, and which member is at fault (own).
use Rattle.std.specs.Prelude.{◌≡◌, ℕ, zero, suc, List, [], ◌∷◌, codes, bytes_eq, Bool, false, true, if◌then◌else◌, ⊤, Option, Some, None, option_and_then, Result, Ok, Err}
use Rattle.std.specs.List.{list_any}
use Rattle.serde_json.specs.Data.{Data, Items, Members, no_members, member}
use Rattle.serde_json.specs.Find.{get, get_item, as_array, as_object}
use Rattle.ing_refusals.specs.Results.{◌>>=◌}
use Rattle.ing_rows.specs.Texts.{is_tenant}
use Rattle.ing_commands.specs.declared.fault.LineFault.{LineFault}
use Rattle.ing_commands.specs.declared.fault.LineFault.TheVariants.{BadCommand, Metadata, BadTenant, BadStamp}
use Rattle.ing_commands.specs.PushCommands.{RawValue, raw_texts, raw_elements, raw_value, is_no_stamp}
use Rattle.ing_commands.specs.QueryCommands.{RawCursor, after_at, cursor_of, limit_at, order_of}
use Rattle.ing_commands.specs.Shapes.{text_of, text_at, text_or, maybe_text_at, flag_at, array_at, object_at}
use Rattle.ctl_explain.specs.declared.member.Field.{Field}
use Rattle.ctl_explain.specs.declared.member.Field.TheVariants as field
use Rattle.ctl_explain.specs.declared.member.Part.{Part}
use Rattle.ctl_explain.specs.declared.member.Part.TheVariants as part
use Rattle.ctl_explain.specs.declared.member.Member.{Member}
use Rattle.ctl_explain.specs.declared.member.Member.TheVariants.{Own, OfStream}

-- it passes, or has a fault
abbrev pub Test : Type 0
Test = Result ⊤ LineFault

abbrev pub passes : {A : Type 0} → A → Test
passes x = Ok tt

-- the nine commands
abbrev pub commands : List (List ℕ)
commands = codes "push" ∷ codes "sweep" ∷ codes "flush" ∷ codes "gauges" ∷ codes "board" ∷ codes "checkpoint" ∷ codes "query" ∷ codes "series" ∷ codes "labels" ∷ []

abbrev pub test_cmd : List ℕ → Test
test_cmd text = if list_any (bytes_eq text) commands then Ok tt else Err BadCommand

abbrev pub test_tenant : List ℕ → Test
test_tenant text = if is_tenant text then Ok tt else Err BadTenant

abbrev pub test_stamp : List ℕ → Test
test_stamp text = if is_no_stamp text then Err BadStamp else Ok tt

-- the end of a range may be the first number that is no stamp
abbrev pub test_end : List ℕ → Test
test_end text = if bytes_eq text (codes "9223372036854775808") then Ok tt else test_stamp text

abbrev pub test_direction : List ℕ → Test
test_direction text = order_of text >>= passes

-- the stamp of a cursor, where there is one
abbrev pub test_after : Option RawCursor → Test
test_after None = Ok tt
test_after (Some cursor) = test_stamp cursor.stamp

-- a cursor: its shape, and then its stamp
abbrev pub test_cursor : Data → Test
test_cursor d = cursor_of (Some d) >>= test_after

-- a flag, where there is one
abbrev pub test_flag : List ℕ → Bool → Data → Test
test_flag name absent d = flag_at name absent d >>= passes

-- a text, where there is one
abbrev pub test_text : List ℕ → Data → Test
test_text name d = maybe_text_at name d >>= passes

-- ---- members of the line's object

abbrev pub field_name : Field → List ℕ
field_name field.Cmd = codes "cmd"
field_name field.Tenant = codes "tenant"
field_name field.Now = codes "now"
field_name field.Streams = codes "streams"
field_name field.Query = codes "query"
field_name field.Start = codes "start"
field_name field.End = codes "end"
field_name field.Limit = codes "limit"
field_name field.Direction = codes "direction"
field_name field.After = codes "after"
field_name field.Pages = codes "pages"
field_name field.Forced = codes "forced"
field_name field.Selector = codes "query"
field_name field.Name = codes "name"

abbrev pub field_test : Field → Data → Test
field_test field.Cmd d = text_at (codes "cmd") d >>= test_cmd
field_test field.Tenant d = text_at (codes "tenant") d >>= test_tenant
field_test field.Now d = text_at (codes "now") d >>= test_stamp
field_test field.Streams d = array_at (codes "streams") d >>= passes
field_test field.Query d = text_at (codes "query") d >>= passes
field_test field.Start d = text_or (codes "start") (codes "0") d >>= test_stamp
field_test field.End d = text_or (codes "end") (codes "9223372036854775808") d >>= test_end
field_test field.Limit d = limit_at d >>= passes
field_test field.Direction d = text_or (codes "direction") (codes "backward") d >>= test_direction
field_test field.After d = after_at d >>= test_after
field_test field.Pages d = test_flag (codes "pages") false d
field_test field.Forced d = test_flag (codes "forced") true d
field_test field.Selector d = test_text (codes "query") d
field_test field.Name d = test_text (codes "name") d

-- ---- parts of a stream

-- no third element, then the stamp
abbrev pub test_raw : RawValue → Test
test_raw v = if v.has_metadata then Err Metadata else test_stamp v.stamp

abbrev pub texts_test : Data → Data → Bool → Test
texts_test stamp line has_metadata = raw_texts stamp line has_metadata >>= test_raw

abbrev pub elements_test : Items → Test
elements_test items = raw_elements items >>= test_raw

abbrev pub value_test : Data → Test
value_test d = raw_value d >>= test_raw

abbrev pub label_test : Data → Test
label_test d = text_of d >>= passes

-- what is not there has no fault of its own
abbrev pub test_if_there : (Data → Test) → Option Data → Test
test_if_there test None = Ok tt
test_if_there test (Some d) = test d

-- the value of a label, counted from 0 in byte order of the names
abbrev pub label_in : ℕ → Members → Option Data
label_in n no_members = None
label_in zero (member name d ms) = Some d
label_in (suc n) (member name d ms) = label_in n ms

abbrev pub label_at : ℕ → Data → Option Data
label_at n d = option_and_then (label_in n) (option_and_then as_object (get (codes "stream") d))

-- an element of the array that is the member of this name, counted from 0
abbrev pub item_at : List ℕ → ℕ → Data → Option Data
item_at name n d = option_and_then (get_item n) (option_and_then as_array (get name d))

abbrev pub part_test : Part → Data → Test
part_test part.Labels d = object_at (codes "stream") d >>= passes
part_test (part.Label n) d = test_if_there label_test (label_at n d)
part_test part.Values d = array_at (codes "values") d >>= passes
part_test (part.Value n) d = test_if_there value_test (item_at (codes "values") n d)

-- ---- members

abbrev pub member_test : Member → Data → Test
member_test (Own field) d = field_test field d
member_test (OfStream n part) d = test_if_there (part_test part) (item_at (codes "streams") n d)

-- the member by itself has this fault
abbrev pub IsAtFault : Data → LineFault → Member → Type 0
IsAtFault d fault m = member_test m d ≡ Err fault
