-- A text is read as a duration exactly where it is the text of parts.
use Rattle.std.proofs.Common.{◌≡◌, ◌≢◌, ℕ, zero, suc, ◌+◌, ◌*◌, ◌<◌, ◌≤◌, ◌==◌, ◌&&◌, ◌++◌, nat_lt, nat_le, Bool, true, false, List, [], ◌∷◌, length, take, drop, Option, Some, None, option_map, option_and_then, arith, refl, ap, sym, subst, ◌∙◌, append_assoc, inl, inr}
use Rattle.std.specs.Prelude.{slice_index, if◌then◌else◌}
use Rattle.std.specs.Option.{unwrap_or}
use Rattle.std.specs.List.{list_all}
use Rattle.std.proofs.lemmas.Bool.{cases_Bool}
use Rattle.std.proofs.lemmas.Bool.Decides.{nat_tests}
use Rattle.std.proofs.lemmas.List.{take-append-drop, length-append}
use Rattle.std.proofs.Math.Seq.{take-append_seam, drop-append_seam}
use Rattle.ing_rows.specs.Texts.{is_digit, digits_value}
use Rattle.ing_limits.specs.Durations.{digit_count, unit_at, part_at, parts_sum, capped, duration_of}
use Rattle.ing_limits.specs.DurationTexts.{Unit, hours, minutes, seconds, milliseconds, microseconds, nanoseconds, unit_text, unit_nanoseconds, Part, is_part, part_text, part_nanoseconds, parts_text, nanoseconds_of, IsDuration, DurationsAreExact}
use Rattle.ing_limits.proofs.Sums.{capped_below}

and_left : (a b : Bool) → (a && b) ≡ true → a ≡ true
and_left true b e = refl
and_left false b e = cc

and_right : (a b : Bool) → (a && b) ≡ true → b ≡ true
and_right true b e = e
and_right false b e = cc

and_both : (a b : Bool) → a ≡ true → b ≡ true → (a && b) ≡ true
and_both a b p q = ap (λ x. x && b) p ∙ q

-- ---- the part at the front of a text of parts

count_front : (ds rest : List ℕ) → list_all is_digit ds ≡ true → digit_count rest ≡ 0 → digit_count (ds ++ rest) ≡ length ds
count_front [] rest all none = none
count_front (d ∷ ds) rest all none =
    ap (λ b. if b then suc (digit_count (ds ++ rest)) else 0) (and_left (is_digit d) (list_all is_digit ds) all)
    ∙ ap suc (count_front ds rest (and_right (is_digit d) (list_all is_digit ds) all) none)

no_digit : (u : Unit) (rest : List ℕ) → digit_count (unit_text u ++ rest) ≡ 0
no_digit hours rest = refl
no_digit minutes rest = refl
no_digit seconds rest = refl
no_digit milliseconds rest = refl
no_digit microseconds rest = refl
no_digit nanoseconds rest = refl

unit_front : (u : Unit) (rest : List ℕ) → (slice_index rest 0 == 115) ≡ false → unit_at (unit_text u ++ rest) ≡ Some (unit_nanoseconds u, length (unit_text u))
unit_front hours rest no_s = refl
unit_front minutes rest no_s = ap (λ b. if b then Some (1000000, 2) else Some (60000000000, 1)) no_s
unit_front seconds rest no_s = refl
unit_front milliseconds rest no_s = refl
unit_front microseconds rest no_s = refl
unit_front nanoseconds rest no_s = refl

digit_first : (ds unit rest : List ℕ) → nat_lt 0 (length ds) ≡ true → list_all is_digit ds ≡ true → (slice_index ((ds ++ unit) ++ rest) 0 == 115) ≡ false
digit_first [] unit rest some all = cc
digit_first (d ∷ ds) unit rest some all =
    let digit : is_digit d ≡ true = and_left (is_digit d) (list_all is_digit ds) all in
    other d digit where
      other : (d : ℕ) → (nat_le 48 d && nat_le d 57) ≡ true → (d == 115) ≡ false
      other d e = grind (arith, nat_tests)

some_digits : (p : Part) → is_part p ≡ true → nat_lt 0 (length p.digits) ≡ true
some_digits p e = and_left _ (nat_le (length p.digits) 19) (and_left _ (list_all is_digit p.digits) e)

all_digits : (p : Part) → is_part p ≡ true → list_all is_digit p.digits ≡ true
all_digits p e = and_right (nat_lt 0 (length p.digits) && nat_le (length p.digits) 19) _ e

no_s_before : (ps : List Part) → list_all is_part ps ≡ true → (slice_index (parts_text ps) 0 == 115) ≡ false
no_s_before [] all = refl
no_s_before (p ∷ ps) all =
    let this : is_part p ≡ true = and_left (is_part p) (list_all is_part ps) all in
    digit_first p.digits (unit_text p.unit) (parts_text ps) (some_digits p this) (all_digits p this)

part_with : ℕ → List ℕ → Option (ℕ × List ℕ)
part_with n text = if nat_lt 0 n && nat_le n 19 then option_map (λ unit. (digits_value (take n text) * unit.0, drop unit.1 (drop n text))) (unit_at (drop n text)) else None

part_front : (p : Part) (rest : List ℕ) → is_part p ≡ true → (slice_index rest 0 == 115) ≡ false → part_at (part_text p ++ rest) ≡ Some (part_nanoseconds p, rest)
unfolding part_with
part_front p rest is no_s =
    let n = length p.digits in
    let tail = unit_text p.unit ++ rest in
    let text = p.digits ++ tail in
    let count : digit_count text ≡ n = count_front p.digits tail (all_digits p is) (no_digit p.unit rest) in
    ap part_at (append_assoc p.digits (unit_text p.unit) rest)
    ∙ ap (λ k. part_with k text) count
    ∙ ap (λ b. if b then option_map (λ unit. (digits_value (take n text) * unit.0, drop unit.1 (drop n text))) (unit_at (drop n text)) else None) (and_left (nat_lt 0 n && nat_le n 19) _ is)
    ∙ ap (λ ds. option_map (λ unit. (digits_value ds * unit.0, drop unit.1 (drop n text))) (unit_at (drop n text))) (take-append_seam p.digits tail)
    ∙ ap (λ t. option_map (λ unit. (digits_value p.digits * unit.0, drop unit.1 t)) (unit_at t)) (drop-append_seam p.digits tail)
    ∙ ap (option_map (λ unit. (digits_value p.digits * unit.0, drop unit.1 tail))) (unit_front p.unit rest no_s)
    ∙ ap (λ r. Some (part_nanoseconds p, r)) (drop-append_seam (unit_text p.unit) rest)

-- ---- the sum of a text of parts

part_length : (p : Part) (rest : List ℕ) → is_part p ≡ true → length rest < length (part_text p ++ rest)
part_length p rest is = longer (some_digits p is) (length-append (part_text p) rest) (length-append p.digits (unit_text p.unit)) where
  longer : nat_lt 0 (length p.digits) ≡ true → length (part_text p ++ rest) ≡ length (part_text p) + length rest → length (part_text p) ≡ length p.digits + length (unit_text p.unit) → length rest < length (part_text p ++ rest)
  longer a b c = grind (arith, nat_tests)

parts_length : (ps : List Part) → list_all is_part ps ≡ true → length ps ≤ length (parts_text ps)
parts_length [] all = omega arith
parts_length (p ∷ ps) all =
    let this : is_part p ≡ true = and_left (is_part p) (list_all is_part ps) all in
    let rest : length ps ≤ length (parts_text ps) = parts_length ps (and_right (is_part p) (list_all is_part ps) all) in
    omega (arith, rest, part_length p (parts_text ps) this)

-- the sum of the parts of a text whose first part is known
abbrev sum_from : ℕ → Option (ℕ × List ℕ) → Option ℕ
sum_from more first = option_and_then (λ part. if length part.1 == 0 then Some part.0 else option_map (λ rest. part.0 + rest) (parts_sum more part.1)) first

parts_front : (more : ℕ) (p : Part) (ps : List Part) → list_all is_part (p ∷ ps) ≡ true → length (p ∷ ps) ≤ more → parts_sum more (parts_text (p ∷ ps)) ≡ Some (nanoseconds_of (p ∷ ps))
unfolding parts_sum
parts_front zero p ps all few = absurd (omega (arith, few))
parts_front (suc more) p [] all few =
    ap (sum_from more) (part_front p [] (and_left (is_part p) true all) refl) ∙ ap Some (plain (part_nanoseconds p)) where
      plain : (n : ℕ) → n ≡ n + 0
      plain n = omega arith
parts_front (suc more) p (q ∷ qs) all few =
    let later = and_right (is_part p) (list_all is_part (q ∷ qs)) all in
    let rest = parts_text (q ∷ qs) in
    ap (sum_from more) (part_front p rest (and_left (is_part p) (list_all is_part (q ∷ qs)) all) (no_s_before (q ∷ qs) later))
    ∙ ap (λ b. if b then Some (part_nanoseconds p) else option_map (λ n. part_nanoseconds p + n) (parts_sum more rest)) (longer (length qs) (length rest) (parts_length (q ∷ qs) later))
    ∙ ap (option_map (λ n. part_nanoseconds p + n)) (parts_front more q qs later (omega (arith, few))) where
      longer : (k l : ℕ) → suc k ≤ l → (l == 0) ≡ false
      longer k l h = grind (arith, nat_tests)

pub from_parts : (text : List ℕ) (n : ℕ) → (ps : List Part) → IsDuration text n ps → duration_of text ≡ Some n
from_parts text n [] is = absurd (is.some refl)
from_parts text n (p ∷ ps) is =
    ap duration_of (sym is.spelt)
    ∙ ap (option_and_then capped) (parts_front (length (parts_text (p ∷ ps))) p ps is.parts (parts_length (p ∷ ps) is.parts))
    ∙ ap capped is.sum
    ∙ sym (capped_below n is.below)

-- ---- the part that is read at the front of a text

digits_back : (text : List ℕ) → list_all is_digit (take (digit_count text) text) ≡ true
digits_back [] = refl
digits_back (b ∷ bs) = by (is_digit b) refl (digits_back bs) where
  by : (d : Bool) → is_digit b ≡ d → list_all is_digit (take (digit_count bs) bs) ≡ true → list_all is_digit (take (if d then suc (digit_count bs) else 0) (b ∷ bs)) ≡ true
  by true e more = and_both (is_digit b) _ e more
  by false e more = refl

count_within : (text : List ℕ) → length (take (digit_count text) text) ≡ digit_count text
count_within [] = refl
count_within (b ∷ bs) = by (is_digit b) (count_within bs) where
  by : (d : Bool) → length (take (digit_count bs) bs) ≡ digit_count bs → length (take (if d then suc (digit_count bs) else 0) (b ∷ bs)) ≡ (if d then suc (digit_count bs) else 0)
  by true more = ap suc more
  by false more = refl

same : (a b : ℕ) → (a == b) ≡ true → b ≡ a
same a b e = grind (arith, nat_tests)

not_zero : (b : ℕ) → (0 == suc b) ≡ true → ⊥
not_zero b e = grind (arith, nat_tests)

not_empty : (k : ℕ) → (suc k == 0) ≡ true → ⊥
not_empty k e = grind (arith, nat_tests)

-- the letter at the front
first_is : (b : ℕ) (text : List ℕ) → (slice_index text 0 == suc b) ≡ true → suc b ∷ drop 1 text ≡ text
first_is b [] e = absurd (not_zero b e)
first_is b (x ∷ xs) e = ap (λ y. y ∷ xs) (same x (suc b) e)

record UnitAt (tail : List ℕ) (x : ℕ × ℕ) : Type 0 where
  unit : Unit
  worth : unit_nanoseconds unit ≡ x.0
  spelt : unit_text unit ++ drop x.1 tail ≡ tail

some_is : (x y : ℕ × ℕ) → Some x ≡ Some y → x ≡ y
some_is x y e = ap (λ o. unwrap_or o x) e

abbrev unit_by : Bool → Bool → Bool → Bool → Bool → Bool → Option (ℕ × ℕ)
unit_by h s m u n second =
    if h then Some (3600000000000, 1) else
    if s then Some (1000000000, 1) else
    if m && second then Some (1000000, 2) else
    if m then Some (60000000000, 1) else
    if u && second then Some (1000, 2) else
    if n && second then Some (1, 2) else None

unit_back_by : (f : ℕ) (rest : List ℕ) (x : ℕ × ℕ) (h s m u n second : Bool) → (f == 104) ≡ h → (f == 115) ≡ s → (f == 109) ≡ m → (f == 117) ≡ u → (f == 110) ≡ n → (slice_index rest 0 == 115) ≡ second
    → unit_by h s m u n second ≡ Some x → UnitAt (f ∷ rest) x
unit_back_by f rest x true s m u n second eh es em eu en e2 is =
    subst (UnitAt (f ∷ rest)) (some_is _ x is) (record { unit = hours; worth = refl; spelt = ap (λ y. y ∷ rest) (same f 104 eh) })
unit_back_by f rest x false true m u n second eh es em eu en e2 is =
    subst (UnitAt (f ∷ rest)) (some_is _ x is) (record { unit = seconds; worth = refl; spelt = ap (λ y. y ∷ rest) (same f 115 es) })
unit_back_by f rest x false false true u n true eh es em eu en e2 is =
    subst (UnitAt (f ∷ rest)) (some_is _ x is) (record { unit = milliseconds; worth = refl; spelt = ap (λ y. y ∷ 115 ∷ drop 1 rest) (same f 109 em) ∙ ap (λ t. f ∷ t) (first_is 114 rest e2) })
unit_back_by f rest x false false true u n false eh es em eu en e2 is =
    subst (UnitAt (f ∷ rest)) (some_is _ x is) (record { unit = minutes; worth = refl; spelt = ap (λ y. y ∷ rest) (same f 109 em) })
unit_back_by f rest x false false false true n true eh es em eu en e2 is =
    subst (UnitAt (f ∷ rest)) (some_is _ x is) (record { unit = microseconds; worth = refl; spelt = ap (λ y. y ∷ 115 ∷ drop 1 rest) (same f 117 eu) ∙ ap (λ t. f ∷ t) (first_is 114 rest e2) })
unit_back_by f rest x false false false true true false eh es em eu en e2 is = cc
unit_back_by f rest x false false false true false false eh es em eu en e2 is = cc
unit_back_by f rest x false false false false true true eh es em eu en e2 is =
    subst (UnitAt (f ∷ rest)) (some_is _ x is) (record { unit = nanoseconds; worth = refl; spelt = ap (λ y. y ∷ 115 ∷ drop 1 rest) (same f 110 en) ∙ ap (λ t. f ∷ t) (first_is 114 rest e2) })
unit_back_by f rest x false false false false true false eh es em eu en e2 is = cc
unit_back_by f rest x false false false false false second eh es em eu en e2 is = cc

unit_back : (tail : List ℕ) (x : ℕ × ℕ) → unit_at tail ≡ Some x → UnitAt tail x
unit_back [] x is = cc
unit_back (f ∷ rest) x is = unit_back_by f rest x (f == 104) (f == 115) (f == 109) (f == 117) (f == 110) (slice_index rest 0 == 115) refl refl refl refl refl refl is

record PartAt (text : List ℕ) (r : ℕ × List ℕ) : Type 0 where
  part : Part
  is : is_part part ≡ true
  spelt : part_text part ++ r.1 ≡ text
  worth : part_nanoseconds part ≡ r.0

mapped_back : {A B : Type 0} (f : A → B) (o : Option A) (y : B) → option_map f o ≡ Some y → (x : A) × (o ≡ Some x) × (f x ≡ y)
mapped_back f None y e = cc
mapped_back f (Some x) y e = (x, refl, ap (λ o. unwrap_or o (f x)) e)

part_back : (text : List ℕ) (r : ℕ × List ℕ) → part_at text ≡ Some r → PartAt text r
part_back text r is = by (nat_lt 0 n && nat_le n 19) refl is where
  n : ℕ
  n = digit_count text

  by : (b : Bool) → (nat_lt 0 (digit_count text) && nat_le (digit_count text) 19) ≡ b
      → (if b then option_map (λ unit. (digits_value (take (digit_count text) text) * unit.0, drop unit.1 (drop (digit_count text) text))) (unit_at (drop (digit_count text) text)) else None) ≡ Some r → PartAt text r
  by false e is = cc
  by true e is =
      let ds = take (digit_count text) text in
      let tail = drop (digit_count text) text in
      let found = mapped_back (λ unit. (digits_value ds * unit.0, drop unit.1 tail)) (unit_at tail) r is in
      let unit = unit_back tail found.0 found.1 in
      let long : length ds ≡ digit_count text = count_within text in
      subst (PartAt text) found.2
      (record {
        part = record { digits = ds; unit = unit.unit };
        is = and_both _ _ (ap (λ k. nat_lt 0 k && nat_le k 19) long ∙ e) (digits_back text);
        spelt = append_assoc ds (unit_text unit.unit) (drop found.0.1 tail) ∙ ap (λ t. ds ++ t) unit.spelt ∙ take-append-drop (digit_count text) text;
        worth = ap (λ k. digits_value ds * k) unit.worth;
      })

-- ---- and the sum that is read

record Parts (text : List ℕ) (n : ℕ) : Type 0 where
  parts : List Part
  some : parts ≢ []
  are : list_all is_part parts ≡ true
  spelt : parts_text parts ≡ text
  sum : nanoseconds_of parts ≡ n

no_length : (text : List ℕ) → (length text == 0) ≡ true → [] ≡ text
no_length [] e = refl
no_length (x ∷ xs) e = absurd (not_empty (length xs) e)

none_is : {P : Type 0} (n : ℕ) → None ≡ Some n → P
none_is n e = cc

one_part : (text : List ℕ) (r : ℕ × List ℕ) (n : ℕ) → PartAt text r → (length r.1 == 0) ≡ true → Some r.0 ≡ Some n → Parts text n
one_part text r n p last is = record {
  parts = p.part ∷ [];
  some = λ e. cc;
  are = and_both (is_part p.part) true p.is refl;
  spelt = ap (λ t. part_text p.part ++ t) (no_length r.1 last) ∙ p.spelt;
  sum = plain (part_nanoseconds p.part) ∙ p.worth ∙ ap (λ o. unwrap_or o 0) is;
} where
  plain : (k : ℕ) → k + 0 ≡ k
  plain k = omega arith

more_parts : (text : List ℕ) (r : ℕ × List ℕ) (m n : ℕ) → PartAt text r → Parts r.1 m → r.0 + m ≡ n → Parts text n
more_parts text r m n p rest is = record {
  parts = p.part ∷ rest.parts;
  some = λ e. cc;
  are = and_both (is_part p.part) (list_all is_part rest.parts) p.is rest.are;
  spelt = ap (λ t. part_text p.part ++ t) rest.spelt ∙ p.spelt;
  sum = ap (λ k. k + nanoseconds_of rest.parts) p.worth ∙ ap (λ k. r.0 + k) rest.sum ∙ is;
}

parts_back : (more : ℕ) (text : List ℕ) (n : ℕ) → parts_sum more text ≡ Some n → Parts text n
unfolding parts_sum
parts_back zero text n is = none_is n is
parts_back (suc more) text n is = by (part_at text) refl (parts_back more) is where
  by : (found : Option (ℕ × List ℕ)) → part_at text ≡ found → ((rest : List ℕ) (m : ℕ) → parts_sum more rest ≡ Some m → Parts rest m) → sum_from more found ≡ Some n → Parts text n
  by None e back is = none_is n is
  by (Some r) e back is =
      elim (cases_Bool (length r.1 == 0)) [
        | inl last ↦ one_part text r n (part_back text r e) last (sym (ap (λ b. if b then Some r.0 else option_map (λ rest. r.0 + rest) (parts_sum more r.1)) last) ∙ is)
        | inr longer ↦
            let rest = mapped_back (λ m. r.0 + m) (parts_sum more r.1) n (sym (ap (λ b. if b then Some r.0 else option_map (λ m. r.0 + m) (parts_sum more r.1)) longer) ∙ is) in
            more_parts text r rest.0 n (part_back text r e) (back r.1 rest.0 rest.1) rest.2
      ]

capped_back : (m n : ℕ) → capped m ≡ Some n → (m ≡ n) × (n < 9223372036854775808)
capped_back m n is = by (nat_lt m 9223372036854775808) refl is where
  below : (k : ℕ) → nat_lt k 9223372036854775808 ≡ true → k < 9223372036854775808
  below k e = grind (arith, nat_tests)

  by : (b : Bool) → nat_lt m 9223372036854775808 ≡ b → (if b then Some m else None) ≡ Some n → (m ≡ n) × (n < 9223372036854775808)
  by true e is = let equal : m ≡ n = ap (λ o. unwrap_or o m) is in (equal, subst (λ k. k < 9223372036854775808) equal (below m e))
  by false e is = none_is n is

pub to_parts : (text : List ℕ) (n : ℕ) → duration_of text ≡ Some n → (ps : List Part) × IsDuration text n ps
to_parts text n is = by (parts_sum (length text) text) refl is where
  by : (sum : Option ℕ) → parts_sum (length text) text ≡ sum → option_and_then capped sum ≡ Some n → (ps : List Part) × IsDuration text n ps
  by None e is = none_is n is
  by (Some m) e is =
      let found = parts_back (length text) text m e in
      let below = capped_back m n is in
      (found.parts, record { some = found.some; parts = found.are; spelt = found.spelt; sum = found.sum ∙ below.0; below = below.1 })

pub durations_are_exact : DurationsAreExact
durations_are_exact text n = (to_parts text n, λ is. from_parts text n is.0 is.1)
