-- The labels of a stream: as arguments spell them, and as an object of a push has them.
use Rattle.std.specs.Prelude.{◌≡◌, ℕ, suc, ◌==◌, List, [], ◌∷◌, Bool, bytes_eq, if◌then◌else◌, Option, Some, None, Result, Ok, Err}
use Rattle.std.specs.List.{list_any, before_first, after_first}
use Rattle.std.specs.Option.{ok_or}
use Rattle.std.specs.Result.{result_unwrap_or}
use Rattle.std.specs.Cmp.Lexicographic.{slice_cmp}
use Rattle.std.specs.Ordering.{nat_cmp}
use Rattle.std.specs.BTreeMap.{insert_entry}
use Rattle.std.specs.FinMap.{entries}
use Rattle.serde_json.specs.Data.{Data, string, object, Members, no_members, member}
use Rattle.serde_json.specs.Find.{as_object}
use Rattle.ing_labels.specs.Canonical.{canonical_of}
use Rattle.ing_labels.specs.Labels.{IsLabelSet, LabelMap}
use Rattle.ing_refusals.specs.Results.{◌>>=◌}
use Rattle.ing_commands.specs.declared.fault.LineFault.{LineFault}
use Rattle.ing_commands.specs.declared.fault.LineFault.TheVariants.{BadCommand}
use Rattle.ing_commands.specs.PushCommands.{raw_labels}
use Rattle.ctl_feed.specs.declared.labels.LabelFault.{LabelFault}
use Rattle.ctl_feed.specs.declared.labels.LabelFault.TheVariants.{NoEquals, TwiceNamed}

-- ---- arguments

abbrev pub is_equals : ℕ → Bool
is_equals byte = byte == 61

-- the name and the value of an argument: what stands before its first equals sign, and what stands after it
abbrev pub label_of : List ℕ → Option (List ℕ × List ℕ)
label_of argument = if list_any is_equals argument then Some (before_first is_equals argument, after_first is_equals argument) else None

-- a label has this name
abbrev pub is_named : List ℕ → List (List ℕ × List ℕ) → Bool
is_named name labels = list_any (λ label. bytes_eq name label.0) labels

-- one more label, at its place in the byte order of the names, where none of them is its own
abbrev pub with_label : ℕ → List (List ℕ × List ℕ) → List ℕ × List ℕ → Result (List (List ℕ × List ℕ)) LabelFault
with_label at labels label = if is_named label.0 labels then Err (TwiceNamed at) else Ok (insert_entry (slice_cmp nat_cmp) labels label.0 label.1)

-- the label of one more argument, the one at this index
abbrev pub with_argument : ℕ → List (List ℕ × List ℕ) → List ℕ → Result (List (List ℕ × List ℕ)) LabelFault
with_argument at labels argument = ok_or (label_of argument) (NoEquals at) >>= with_label at labels

-- the labels of further arguments, from this index on
abbrev pub with_arguments : ℕ → List (List ℕ × List ℕ) → List (List ℕ) → Result (List (List ℕ × List ℕ)) LabelFault
with_arguments at labels [] = Ok labels
with_arguments at labels (argument ∷ arguments) = with_argument at labels argument >>= λ more. with_arguments (suc at) more arguments

-- the labels of arguments, in byte order of their names, or the first fault
abbrev pub labels_of : List (List ℕ) → Result (List (List ℕ × List ℕ)) LabelFault
labels_of arguments = with_arguments 0 [] arguments

-- ---- canonical names

-- These are the labels of a stream of this canonical name, in byte order of their names.
pub record IsNamed (name : List ℕ) (labels : List (List ℕ × List ℕ)) : Type 0 where
  pub set : LabelMap
  pub is_set : IsLabelSet set
  pub named : name ≡ canonical_of set
  pub all : labels ≡ entries set

-- ---- the object

-- the labels that the reader of pushes finds in an object
abbrev pub labels_read : Data → Result (List (List ℕ × List ℕ)) LineFault
labels_read d = ok_or (as_object d) BadCommand >>= raw_labels

-- the same where it finds them
abbrev pub labels_in : Data → List (List ℕ × List ℕ)
labels_in d = result_unwrap_or (labels_read d) []

-- the labels of members, where all are texts
abbrev pub members_labels : Members → List (List ℕ × List ℕ)
members_labels ms = result_unwrap_or (raw_labels ms) []

abbrev pub label_members : List (List ℕ × List ℕ) → Members
label_members [] = no_members
label_members (label ∷ labels) = member label.0 (string label.1) (label_members labels)

-- the object of labels
abbrev pub labels_data : List (List ℕ × List ℕ) → Data
labels_data labels = object (label_members labels)
