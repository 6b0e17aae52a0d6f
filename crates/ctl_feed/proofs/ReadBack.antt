-- A push that is written is read back.
use Rattle.std.proofs.Common.{◌≡◌, ℕ, ◌^◌, ◌<◌, ◌≤◌, ◌&&◌, Bool, true, false, List, [], ◌∷◌, map, length, codes, decimal, Some, Result, Ok, Err, refl, ap, ap₂, ◌∙◌, arith, rules}
use Rattle.std.specs.Prelude.{nat_lt, nat_le, is_ok}
use Rattle.std.specs.List.{list_all, list_any}
use Rattle.std.specs.Result.{result_unwrap_or}
use Rattle.std.specs.Str.{IsUtf8}
use Rattle.std.proofs.lemmas.Bool.Decides.{nat_tests}
use Rattle.std.proofs.lemmas.Fmt.{decimal_nonempty, length-decimal-le, digits_decimal, digits_value-decimal}
use Rattle.std.proofs.lemmas.Str.{is_utf8-from_IsUtf8}
use Rattle.std.proofs.lemmas.Str.Parse.{IsNumeralModel, numerals_by_weight}
use Rattle.serde_json.specs.Data.{Data, null, boolean, number, string, array, object, Members, member, no_members, depth, items_depth, members_depth}
use Rattle.serde_json.specs.Read.{read, max_depth}
use Rattle.serde_json.specs.View.{items_of}
use Rattle.serde_json.specs.Written.{has_float, items_have_float, members_have_float}
use Rattle.ing_refusals.specs.Results.{◌>>=◌}
use Rattle.ing_rows.specs.Texts.{is_tenant, is_digit, digits_value, stamp_of}
use Rattle.ing_rows.specs.declared.entry.Entry.{Entry}
use Rattle.ing_commands.specs.declared.fault.LineFault.{LineFault}
use Rattle.ing_commands.specs.Commands.{Push, said_by, command_of}
use Rattle.ing_commands.specs.PushCommands.{RawValue, RawStream, RawPush, raw_value, raw_labels, raw_stream, raw_push, is_no_stamp, entry_of, checked}
use Rattle.ing_commands.specs.Shapes.{each, text_of}
use Rattle.ctl_feed.specs.Labels.{labels_read, label_members, labels_data}
use Rattle.ctl_feed.specs.Pushes.{push_of, push_data, value_data, is_stamp}

-- ---- stamps in digits

pub own : IsNumeralModel (λ ds. list_all is_digit ds ≡ true) digits_value
own = numerals_by_weight _ (search rules) digits_value (search rules)

lt_true : (a b : ℕ) → a < b → nat_lt a b ≡ true
lt_true a b h = grind (arith, nat_tests)

le_true : (a b : ℕ) → a ≤ b → nat_le a b ≡ true
le_true a b h = grind (arith, nat_tests)

-- a stamp in digits spells that stamp
pub stamp_of-decimal : (n : ℕ) → n < 2 ^ 63 → stamp_of (decimal n) ≡ Some n
stamp_of-decimal n h =
    let fits : n < 2 ^ 64 = omega arith in
    let short : n < 10 ^ 19 = omega arith in
    let one : 0 < 19 = omega arith in
    let value : digits_value (decimal n) ≡ n = digits_value-decimal own n fits in
    rw (lt_true 0 (length (decimal n)) (decimal_nonempty n fits), le_true (length (decimal n)) 19 (length-decimal-le 19 n one short fits), digits_decimal own n fits, value, lt_true n (2 ^ 63) h)

-- ---- values

abbrev raw_of : Entry → RawValue
raw_of entry = record { stamp = decimal entry.stamp; line = entry.line; has_metadata = false }

each_value : (entries : List Entry) → each raw_value (items_of (map value_data entries)) ≡ Ok (map raw_of entries)
each_value [] = refl
each_value (entry ∷ entries) = rw (each_value entries)

no_third : (entries : List Entry) → list_any (λ (v : RawValue). v.has_metadata) (map raw_of entries) ≡ false
no_third [] = refl
no_third (entry ∷ entries) = no_third entries

-- a stamp in digits is no fault
decimal_good : (n : ℕ) → n < 2 ^ 63 → is_no_stamp (decimal n) ≡ false
decimal_good n h = rw (stamp_of-decimal n h)

pub both_true : (a b : Bool) → (a && b) ≡ true → (a ≡ true) × (b ≡ true)
both_true true b h = (refl, h)
both_true false b h = absurd cc

pub is_below : (n m : ℕ) → nat_lt n m ≡ true → n < m
is_below n m h = grind (arith, nat_tests)

good_values : (entries : List Entry) → list_all is_stamp entries ≡ true → list_any (λ (v : RawValue). is_no_stamp v.stamp) (map raw_of entries) ≡ false
good_values [] h = refl
good_values (entry ∷ entries) h =
    let p = both_true (is_stamp entry) (list_all is_stamp entries) h in
    rw (decimal_good entry.stamp (is_below entry.stamp (2 ^ 63) p.0), good_values entries p.1)

entries_back : (entries : List Entry) → list_all is_stamp entries ≡ true → map entry_of (map raw_of entries) ≡ entries
entries_back [] h = refl
entries_back (entry ∷ entries) h =
    let p = both_true (is_stamp entry) (list_all is_stamp entries) h in
    rw (stamp_of-decimal entry.stamp (is_below entry.stamp (2 ^ 63) p.0), entries_back entries p.1)

-- ---- the labels

pub labels_back : (labels : List (List ℕ × List ℕ)) → raw_labels (label_members labels) ≡ Ok labels
labels_back [] = refl
labels_back (label ∷ labels) = rw (labels_back labels)

text_is : (d : Data) (s : List ℕ) → text_of d ≡ Ok s → d ≡ string s
text_is null s h = absurd cc
text_is (boolean b) s h = absurd cc
text_is (number n) s h = absurd cc
text_is (string t) s h = let same : t ≡ s = cc in ap string same
text_is (array ds) s h = absurd cc
text_is (object ms) s h = absurd cc

first_ok : {A B : Type 0} (r : Result A LineFault) (f : A → Result B LineFault) (b : B) → (r >>= f) ≡ Ok b → (a : A) × (r ≡ Ok a) × (f a ≡ Ok b)
first_ok (Ok a) f b h = (a, refl, h)
first_ok (Err e) f b h = absurd cc

pub members_are : (ms : Members) (labels : List (List ℕ × List ℕ)) → raw_labels ms ≡ Ok labels → ms ≡ label_members labels
members_are no_members labels h = let none : [] ≡ labels = cc in ap label_members none
members_are (member name d ms) labels h =
    let value = first_ok (text_of d) _ labels h in
    let others = first_ok (raw_labels ms) _ labels value.2 in
    let all : (name, value.0) ∷ others.0 ≡ labels = cc (others.2) in
    ap₂ (member name) (text_is d value.0 value.1) (members_are ms others.0 others.1) ∙ ap label_members all

-- what is read, where it is
pub read_is : (r : Result (List (List ℕ × List ℕ)) LineFault) → is_ok r ≡ true → r ≡ Ok (result_unwrap_or r [])
read_is (Ok labels) h = refl
read_is (Err fault) h = absurd cc

-- an object whose labels are read is that of the labels
pub object_is : (d : Data) (labels : List (List ℕ × List ℕ)) → labels_read d ≡ Ok labels → d ≡ labels_data labels
object_is null labels h = absurd cc
object_is (boolean b) labels h = absurd cc
object_is (number n) labels h = absurd cc
object_is (string t) labels h = absurd cc
object_is (array ds) labels h = absurd cc
object_is (object ms) labels h = ap object (members_are ms labels h)

-- ---- the stream

-- its texts
abbrev stream_texts : List (List ℕ × List ℕ) → List Entry → RawStream
stream_texts labels entries = record { labels = labels; values = map raw_of entries }

stream_read : (labels : List (List ℕ × List ℕ)) (entries : List Entry)
    → raw_stream (object (member (codes "stream") (labels_data labels) (member (codes "values") (array (items_of (map value_data entries))) no_members))) ≡ Ok (stream_texts labels entries)
unfolding raw_stream
stream_read labels entries = rw (labels_back labels, each_value entries)

-- ---- the push

-- its texts
abbrev push_texts : List ℕ → ℕ → List (List ℕ × List ℕ) → List Entry → RawPush
push_texts tenant now labels entries = record { tenant = tenant; now = decimal now; streams = stream_texts labels entries ∷ [] }

push_read : (tenant : List ℕ) (now : ℕ) (labels : List (List ℕ × List ℕ)) (entries : List Entry) → raw_push (push_data tenant now labels entries) ≡ Ok (push_texts tenant now labels entries)
unfolding raw_push
push_read tenant now labels entries = rw (stream_read labels entries)

push_checked : (tenant : List ℕ) (now : ℕ) (labels : List (List ℕ × List ℕ)) (entries : List Entry) → is_tenant tenant ≡ true → now < 2 ^ 63 → list_all is_stamp entries ≡ true
    → checked (push_texts tenant now labels entries) ≡ Ok (push_of tenant now labels entries)
push_checked tenant now labels entries good time stamps =
    rw (no_third entries, good, decimal_good now time, good_values entries stamps, stamp_of-decimal now time, entries_back entries stamps)

push_said : (tenant : List ℕ) (now : ℕ) (labels : List (List ℕ × List ℕ)) (entries : List Entry) → is_tenant tenant ≡ true → now < 2 ^ 63 → list_all is_stamp entries ≡ true
    → said_by (push_data tenant now labels entries) ≡ Ok (Push (push_of tenant now labels entries))
unfolding said_by
push_said tenant now labels entries good time stamps =
    rw (push_read tenant now labels entries, push_checked tenant now labels entries good time stamps)

-- the reader takes a text of that data as the push
pub read_as_push : (text tenant : List ℕ) (now : ℕ) (labels : List (List ℕ × List ℕ)) (entries : List Entry) → IsUtf8 text → read text ≡ Some (push_data tenant now labels entries)
    → is_tenant tenant ≡ true → now < 2 ^ 63 → list_all is_stamp entries ≡ true
    → command_of text ≡ Ok (Push (push_of tenant now labels entries))
read_as_push text tenant now labels entries utf8 is good time stamps =
    rw (is_utf8-from_IsUtf8 text utf8, is) (push_said tenant now labels entries good time stamps)

-- ---- how deep it nests, and that it has no float

labels_depth : (labels : List (List ℕ × List ℕ)) → members_depth (label_members labels) ≡ 0
labels_depth [] = refl
labels_depth (label ∷ labels) = rw (labels_depth labels)

values_depth : (entries : List Entry) → items_depth (items_of (map value_data entries)) ≤ 1
values_depth [] = omega arith
values_depth (entry ∷ entries) = omega (arith, values_depth entries)

pub push_depth : (tenant : List ℕ) (now : ℕ) (labels : List (List ℕ × List ℕ)) (entries : List Entry) → depth (push_data tenant now labels entries) ≤ max_depth
push_depth tenant now labels entries = omega (arith, labels_depth labels, values_depth entries)

labels_have_none : (labels : List (List ℕ × List ℕ)) → members_have_float (label_members labels) ≡ false
labels_have_none [] = refl
labels_have_none (label ∷ labels) = labels_have_none labels

values_have_none : (entries : List Entry) → items_have_float (items_of (map value_data entries)) ≡ false
values_have_none [] = refl
values_have_none (entry ∷ entries) = values_have_none entries

pub push_has_none : (tenant : List ℕ) (now : ℕ) (labels : List (List ℕ × List ℕ)) (entries : List Entry) → has_float (push_data tenant now labels entries) ≡ false
push_has_none tenant now labels entries = rw (labels_have_none labels, values_have_none entries)
