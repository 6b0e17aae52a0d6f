-- What entries take in a command.
use Rattle.std.proofs.Common.{◌≡◌, ℕ, ◌+◌, ◌^◌, ◌<◌, ◌≤◌, ◌/◌, ◌%◌, ◌==◌, codes, Bool, true, false, cond, List, [], ◌∷◌, ◌++◌, map, length, decimal, refl, ap, arith, length-append}
use Rattle.std.specs.Prelude.{nat_lt, sum_by}
use Rattle.std.specs.Char.{digit_char}
use Rattle.std.specs.List.{list_all}
use Rattle.std.proofs.lemmas.Bool.Decides.{nat_tests}
use Rattle.std.proofs.lemmas.List.Sums.{sum_by-cons}
use Rattle.std.proofs.lemmas.Fmt.{length-decimal-le, digits_decimal}
use Rattle.serde_json.specs.View.{items_of}
use Rattle.serde_json.specs.Written.{comma_if, compact_text, items_text}
use Rattle.ing_rows.specs.Texts.{is_digit}
use Rattle.ing_rows.specs.declared.entry.Entry.{Entry}
use Rattle.ctl_feed.specs.Labels.{labels_data}
use Rattle.ctl_feed.specs.Loads.{head_size, size_of, sizes_of, value_length}
use Rattle.ctl_feed.specs.Pushes.{is_stamp, push_data, value_data}
use Rattle.ctl_feed.proofs.ReadBack.{both_true, is_below, own}
use Rattle.json.specs.Print.{escape, escape_byte, escape_letter, quoted}

-- ---- escapes

one_at_least : (x : ℕ) → 1 ≤ length (escape_byte x)
unfolding escape_byte
one_at_least x = by (nat_lt 0 (escape_letter x)) (nat_lt x 32) where
  by : (a b : Bool) → 1 ≤ length (cond a (92 ∷ escape_letter x ∷ []) (cond b (92 ∷ 117 ∷ 48 ∷ 48 ∷ digit_char (x / 16) ∷ digit_char (x % 16) ∷ []) (x ∷ [])))
  by true b = omega arith
  by false true = omega arith
  by false false = omega arith

-- an escaped text is no shorter
pub length-escape-ge : (s : List ℕ) → length s ≤ length (escape s)
length-escape-ge [] = omega arith
length-escape-ge (x ∷ xs) = omega (arith, one_at_least x, length-escape-ge xs, length-append (escape_byte x) (escape xs))

-- ---- stamps

below_digits : (d c : ℕ) → is_digit d ≡ true → c < 48 → (d == c) ≡ false
below_digits d c h low = grind (arith, nat_tests)

above_digits : (d c : ℕ) → is_digit d ≡ true → 57 < c → (d == c) ≡ false
above_digits d c h high = grind (arith, nat_tests)

no_control : (d : ℕ) → is_digit d ≡ true → nat_lt d 32 ≡ false
no_control d h = grind (arith, nat_tests)

plain_digit : (d : ℕ) → is_digit d ≡ true → escape_byte d ≡ d ∷ []
unfolding escape_byte
plain_digit d h =
    rw (below_digits d 34 h (omega arith), above_digits d 92 h (omega arith), below_digits d 8 h (omega arith), below_digits d 12 h (omega arith), below_digits d 10 h (omega arith), below_digits d 13 h (omega arith), below_digits d 9 h (omega arith), no_control d h)

length-escape-digits : (ds : List ℕ) → list_all is_digit ds ≡ true → length (escape ds) ≡ length ds
length-escape-digits [] h = refl
length-escape-digits (d ∷ ds) h =
    let p = both_true (is_digit d) (list_all is_digit ds) h in
    omega (arith, ap length (plain_digit d p.0), length-escape-digits ds p.1, length-append (escape_byte d) (escape ds))

-- a stamp in digits has 21 bytes at most, with its quotes
stamp_short : (n : ℕ) → n < 2 ^ 63 → length (quoted (decimal n)) ≤ 21
stamp_short n h =
    let fits : n < 2 ^ 64 = omega arith in
    let short : n < 10 ^ 19 = omega arith in
    let one : 0 < 19 = omega arith in
    omega (arith, length-append (escape (decimal n)) (34 ∷ []), length-escape-digits (decimal n) (digits_decimal own n fits), length-decimal-le 19 n one short fits)

value_short : (entry : Entry) → is_stamp entry ≡ true → length (compact_text (value_data entry)) + 1 ≤ size_of entry
value_short entry h =
    let stamp = quoted (decimal entry.stamp) in
    let line = quoted entry.line in
    omega (arith, stamp_short entry.stamp (is_below entry.stamp (2 ^ 63) h), length-append stamp (44 ∷ (line ++ 93 ∷ [])), length-append line (93 ∷ []))

-- ---- values

comma_short : (later : Bool) → length (comma_if later) ≤ 1
comma_short true = omega arith
comma_short false = omega arith

one_more : (comma value others : List ℕ) (size sizes : ℕ) → length comma ≤ 1 → length value + 1 ≤ size → length others ≤ 1 + sizes → length (comma ++ (value ++ others)) ≤ 1 + (size + sizes)
one_more comma value others size sizes c v o = omega (arith, length-append comma (value ++ others), length-append value others)

values_short : (later : Bool) (entries : List Entry) → list_all is_stamp entries ≡ true → length (items_text later (items_of (map value_data entries))) ≤ 1 + sizes_of entries
values_short later [] h = omega arith
values_short later (entry ∷ entries) h =
    let p = both_true (is_stamp entry) (list_all is_stamp entries) h in
    rw (sum_by-cons size_of entry entries)
    (one_more (comma_if later) (compact_text (value_data entry)) (items_text true (items_of (map value_data entries))) (size_of entry) (sizes_of entries) (comma_short later) (value_short entry p.0) (values_short true entries p.1))

within : (length rest size sizes : ℕ) → length + 1 ≤ size → rest ≤ sizes → length + rest ≤ size + sizes
within length rest size sizes h k = omega arith

-- the texts of values are within their sizes
pub values_within : (entries : List Entry) → list_all is_stamp entries ≡ true → sum_by value_length entries ≤ sizes_of entries
values_within [] h = omega arith
values_within (entry ∷ entries) h =
    let p = both_true (is_stamp entry) (list_all is_stamp entries) h in
    rw (sum_by-cons value_length entry entries, sum_by-cons size_of entry entries)
    (within (value_length entry) (sum_by value_length entries) (size_of entry) (sizes_of entries) (value_short entry p.0) (values_within entries p.1))

-- ---- commands

-- a text is put between others
abbrev Shifts : (List ℕ → List ℕ) → Type 0
Shifts f = (x y : List ℕ) → length (f x) + length y ≡ length (f y) + length x

abbrev member_with : Bool → List ℕ → List ℕ → List ℕ → List ℕ
member_with later name value others = comma_if later ++ (quoted name ++ 58 ∷ (value ++ others))

in_value : (comma name others a b x y : List ℕ) → length a + length y ≡ length b + length x
    → length (comma ++ (name ++ 58 ∷ (a ++ others))) + length y ≡ length (comma ++ (name ++ 58 ∷ (b ++ others))) + length x
in_value comma name others a b x y h =
    omega (arith, length-append comma (name ++ 58 ∷ (a ++ others)), length-append name (58 ∷ (a ++ others)), length-append a others, length-append comma (name ++ 58 ∷ (b ++ others)), length-append name (58 ∷ (b ++ others)), length-append b others)

in_others : (comma name value a b x y : List ℕ) → length a + length y ≡ length b + length x
    → length (comma ++ (name ++ 58 ∷ (value ++ a))) + length y ≡ length (comma ++ (name ++ 58 ∷ (value ++ b))) + length x
in_others comma name value a b x y h =
    omega (arith, length-append comma (name ++ 58 ∷ (value ++ a)), length-append name (58 ∷ (value ++ a)), length-append value a, length-append comma (name ++ 58 ∷ (value ++ b)), length-append name (58 ∷ (value ++ b)), length-append value b)

in_array : (a b x y : List ℕ) → length a + length y ≡ length b + length x → length (91 ∷ (a ++ 93 ∷ [])) + length y ≡ length (91 ∷ (b ++ 93 ∷ [])) + length x
in_array a b x y h = omega (arith, length-append a (93 ∷ []), length-append b (93 ∷ []))

in_brackets : (c : ℕ) (a b x y : List ℕ) → length a + length y ≡ length b + length x → length (c ∷ a) + length y ≡ length (c ∷ b) + length x
in_brackets c a b x y h = omega arith

in_member : (later : Bool) (name others : List ℕ) (f : List ℕ → List ℕ) → Shifts f → Shifts (λ x. member_with later name (f x) others)
in_member later name others f h x y = in_value (comma_if later) (quoted name) others (f x) (f y) x y (h x y)

after_member : (later : Bool) (name value : List ℕ) (f : List ℕ → List ℕ) → Shifts f → Shifts (λ x. member_with later name value (f x))
after_member later name value f h x y = in_others (comma_if later) (quoted name) value (f x) (f y) x y (h x y)

opened : (c : ℕ) (f : List ℕ → List ℕ) → Shifts f → Shifts (λ x. c ∷ f x)
opened c f h x y = in_brackets c (f x) (f y) x y (h x y)

listed : (f : List ℕ → List ℕ) → Shifts f → Shifts (λ x. 91 ∷ (f x ++ 93 ∷ []))
listed f h x y = in_array (f x) (f y) x y (h x y)

-- the text of a push round that of its values
abbrev stream_with : List (List ℕ × List ℕ) → List ℕ → List ℕ
stream_with labels x = 123 ∷ member_with false (codes "stream") (compact_text (labels_data labels)) (member_with true (codes "values") (91 ∷ x) (125 ∷ []))

abbrev push_with : List ℕ → ℕ → List (List ℕ × List ℕ) → List ℕ → List ℕ
push_with tenant now labels x =
    123 ∷ member_with false (codes "cmd") (quoted (codes "push")) (
    member_with true (codes "now") (quoted (decimal now)) (
    member_with true (codes "streams") (91 ∷ (stream_with labels x ++ 93 ∷ [])) (
    member_with true (codes "tenant") (quoted tenant) (125 ∷ []))))

stream_shifts : (labels : List (List ℕ × List ℕ)) → Shifts (stream_with labels)
stream_shifts labels =
    opened 123 (λ x. member_with false (codes "stream") (compact_text (labels_data labels)) (member_with true (codes "values") (91 ∷ x) (125 ∷ [])))
    (after_member false (codes "stream") (compact_text (labels_data labels)) (λ x. member_with true (codes "values") (91 ∷ x) (125 ∷ []))
    (in_member true (codes "values") (125 ∷ []) (λ x. 91 ∷ x) (opened 91 (λ x. x) (λ x y. omega arith))))

push_shifts : (tenant : List ℕ) (now : ℕ) (labels : List (List ℕ × List ℕ)) → Shifts (push_with tenant now labels)
push_shifts tenant now labels =
    let last = member_with true (codes "tenant") (quoted tenant) (125 ∷ []) in
    let streams : List ℕ → List ℕ = λ x. member_with true (codes "streams") (91 ∷ (stream_with labels x ++ 93 ∷ [])) last in
    let from_now : List ℕ → List ℕ = λ x. member_with true (codes "now") (quoted (decimal now)) (streams x) in
    opened 123 (λ x. member_with false (codes "cmd") (quoted (codes "push")) (from_now x))
    (after_member false (codes "cmd") (quoted (codes "push")) from_now
    (after_member true (codes "now") (quoted (decimal now)) streams
    (in_member true (codes "streams") last (λ x. 91 ∷ (stream_with labels x ++ 93 ∷ [])) (listed (stream_with labels) (stream_shifts labels)))))

push_text : (tenant : List ℕ) (now : ℕ) (labels : List (List ℕ × List ℕ)) (entries : List Entry)
    → compact_text (push_data tenant now labels entries) ≡ push_with tenant now labels (items_text false (items_of (map value_data entries)))
push_text tenant now labels entries = refl

shorter : (whole none values : List ℕ) (sizes : ℕ) → length whole + 1 ≡ length none + length values → length values ≤ 1 + sizes → length whole ≤ length none + sizes
shorter whole none values sizes h k = omega arith

-- a command takes what one with no entry does, and what its entries take
pub command_short : (tenant : List ℕ) (now : ℕ) (labels : List (List ℕ × List ℕ)) (entries : List Entry) → list_all is_stamp entries ≡ true
    → length (compact_text (push_data tenant now labels entries)) ≤ head_size tenant now labels + sizes_of entries
command_short tenant now labels entries h =
    let values = items_text false (items_of (map value_data entries)) in
    shorter (push_with tenant now labels values) (push_with tenant now labels (93 ∷ [])) values (sizes_of entries) (push_shifts tenant now labels values (93 ∷ [])) (values_short false entries h)
