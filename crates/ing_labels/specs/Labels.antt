-- Label maps, and which list of pairs makes one.
-- What names no section of the Loki documentation is own.
use Rattle.std.specs.Prelude.{◌≡◌, ◌≢◌, ◌↔◌, ◌≤◌, nat_le, ℕ, Bool, not, ◌&&◌, ◌==◌, nat_lt, List, [], length, map, filter, position, take, Option, Some, None, Result, Ok, Err, IsTrue, if◌then◌else◌}
use Rattle.std.specs.List.{list_any, list_all, enumerate_from, Contains}
use Rattle.std.specs.declared.cmp.Ordering.{Ordering}
use Rattle.std.specs.Ordering.{nat_cmp}
use Rattle.std.specs.Cmp.Lexicographic.{slice_cmp}
use Rattle.std.specs.FinMap.{FinMap, entries, from_entries, from_sorted, get, len}
use Rattle.std.specs.Borrow.{Bor}
use Rattle.std.specs.Str.{bytes_eq}
use Rattle.ing_labels.specs.Names.{is_label_name}
use Rattle.ing_labels.specs.declared.fault.LabelLimits.{LabelLimits}
use Rattle.ing_labels.specs.declared.fault.LabelFault.{LabelFault}
use Rattle.ing_labels.specs.declared.fault.LabelFault.TheVariants.{BadName, TwiceNamed, NoLabels, TooMany, NameTooLong, ValueTooLong}

-- byte order
abbrev pub name_order : List ℕ → List ℕ → Ordering
name_order = slice_cmp nat_cmp

-- from the bytes of a name to the bytes of its value, in byte order of the names
abbrev pub LabelMap : Type 0
LabelMap = FinMap name_order (List ℕ)

-- the bytes of a name and of a value
abbrev pub Pair : Type 0
Pair = List ℕ × List ℕ

-- the texts that the references of a list of pairs point to
abbrev pub texts : List (Bor (List ℕ) × Bor (List ℕ)) → List Pair
texts = map (λ p. (p.0.now, p.1.now))

-- each name is a label name
abbrev pub HasLabelNames : LabelMap → Type 0
HasLabelNames m = IsTrue (list_all (λ e. is_label_name e.0) (entries m))

-- the value is a text of one byte or more
abbrev pub has_value : Pair → Bool
has_value p = not (length p.1 == 0)

-- the labels of a stream: one or more, each with a label name and a value that is not empty
pub record IsLabelSet (m : LabelMap) : Type 0 where
  pub names : HasLabelNames m
  pub values : IsTrue (list_all has_value (entries m))
  pub some : entries m ≢ []

-- a pair of the list has this name
abbrev pub is_named : List ℕ → List Pair → Bool
is_named name = list_any (λ p. bytes_eq p.0 name)

-- the place, counted from 0, of the first pair whose name is no label name
abbrev pub first_bad_name : List Pair → Option ℕ
first_bad_name = position (λ p. not (is_label_name p.0))

-- the place of the first pair whose name a pair before it has
abbrev pub first_repeated_name : List Pair → Option ℕ
first_repeated_name pairs = position (λ (at, p). is_named p.0 (take at pairs)) (enumerate_from 0 pairs)

-- the pairs whose value is not empty: a label with an empty value is an absent one
abbrev pub with_values : List Pair → List Pair
with_values = filter has_value

-- the place of the first pair with a value and with a name of more bytes than this
abbrev pub first_long_name : ℕ → List Pair → Option ℕ
first_long_name most = position (λ p. has_value p && nat_lt most (length p.0))

-- the place of the first pair whose value has more bytes than this, and is not empty
abbrev pub first_long_value : ℕ → List Pair → Option ℕ
first_long_value most = position (λ p. has_value p && nat_lt most (length p.1))

-- this fault where a pair is at fault, and else what the later tests say
abbrev pub or_else_fault : Option ℕ → (ℕ → LabelFault) → Result LabelMap LabelFault → Result LabelMap LabelFault
or_else_fault (Some at) fault later = Err (fault at)
or_else_fault None fault later = later

-- the label map of pairs with label names that differ, or the first fault in the order of the tests
abbrev pub kept_labels : LabelLimits → List Pair → Result LabelMap LabelFault
kept_labels limits pairs =
    let kept = with_values pairs in
    if length kept == 0 then Err NoLabels else
    if nat_lt limits.names (length kept) then Err TooMany else
    or_else_fault (first_long_name limits.name_bytes pairs) NameTooLong (
    or_else_fault (first_long_value limits.value_bytes pairs) ValueTooLong (
    Ok (from_entries kept)))

-- the label map of a list of pairs, or the first fault in the order of the tests
abbrev pub labels_of : LabelLimits → List Pair → Result LabelMap LabelFault
labels_of limits pairs =
    or_else_fault (first_bad_name pairs) BadName (
    or_else_fault (first_repeated_name pairs) TwiceNamed (kept_labels limits pairs))

-- these pairs, in the order of their names, are the labels of a stream
pub record AreLabels (pairs : List Pair) : Type 0 where
  pub in_order : entries (from_sorted {R = name_order} pairs) ≡ pairs
  pub labels : IsLabelSet (from_sorted pairs)

-- a name has a value that is not empty in the map exactly where the list has the pair of the two
abbrev pub HoldsPairs : List Pair → LabelMap → Type 0
HoldsPairs pairs m = (name value : List ℕ) → value ≢ [] → (get m name ≡ Some value) ↔ Contains pairs (name, value)

-- no more labels, no longer names and no longer values than the limits allow
pub record KeepsLimits (limits : LabelLimits) (m : LabelMap) : Type 0 where
  pub count : len m ≤ limits.names
  pub names : IsTrue (list_all (λ e. nat_le (length e.0) limits.name_bytes) (entries m))
  pub values : IsTrue (list_all (λ e. nat_le (length e.1) limits.value_bytes) (entries m))
