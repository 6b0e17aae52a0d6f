-- What the writer of JSON writes has no line feed.
use Rattle.std.proofs.Common.{◌≡◌, ℕ, suc, ◌+◌, ◌/◌, ◌%◌, ◌==◌, ◌&&◌, ◌||◌, Bool, true, false, cond, List, [], ◌∷◌, ◌++◌, drop, Option, Some, None, option_and_then, refl, sym, ap, ◌∙◌, arith, subst}
use Rattle.std.specs.List.{prefix_len}
use Rattle.std.specs.Prelude.{nat_lt}
use Rattle.std.proofs.lemmas.Bool.{eqb-true}
use Rattle.std.proofs.lemmas.Bool.Decides.{nat_tests}
use Rattle.std.specs.Char.{digit_char, is_ascii_digit}
use Rattle.json.specs.Token.{Token, begin_object, end_object, begin_array, end_array, key, string, number, boolean, null, bad}
use Rattle.json.specs.Lex.{tokens}
use Rattle.json.specs.Word.{head, after_digits, after_minus, after_sign, after_whole, after_fraction, after_exponent, after_number}
use Rattle.json.specs.Print.{print, print_from, separator, token_text, begins, ends, escape, escape_byte, escape_letter, quoted, IsNumber, IsPrintableOrBad, ArePrintableOrBad}
use Rattle.json.proofs.Numbered.{ArePrintableOrBad-tokens}
use Rattle.ctl_feed.specs.Pushes.{has_feed}

or_false : (a b : Bool) → a ≡ false → b ≡ false → (a || b) ≡ false
or_false true b h k = h
or_false false b h k = k

left_false : (a b : Bool) → (a || b) ≡ false → a ≡ false
left_false true b h = h
left_false false b h = refl

right_false : (a b : Bool) → (a || b) ≡ false → b ≡ false
right_false true b h = absurd cc
right_false false b h = h

has_feed-append : (xs ys : List ℕ) → has_feed xs ≡ false → has_feed ys ≡ false → has_feed (xs ++ ys) ≡ false
has_feed-append [] ys h k = k
has_feed-append (x ∷ xs) ys h k = or_false (x == 10) (has_feed (xs ++ ys)) (left_false (x == 10) (has_feed xs) h) (has_feed-append xs ys (right_false (x == 10) (has_feed xs) h) k)

-- ---- numbers: a part is taken off the front, and has none

abbrev Clean : Option (List ℕ) → Type 0
Clean None = ⊥
Clean (Some rest) = has_feed rest ≡ false

then_clean : (f : List ℕ → Option (List ℕ)) → ((t : List ℕ) → Clean (f t) → has_feed t ≡ false) → (o : Option (List ℕ)) → Clean (option_and_then f o) → Clean o
then_clean f step None h = h
then_clean f step (Some t) h = step t h

not_feed : (x c : ℕ) → (x == c) ≡ true → (c == 10) ≡ false → (x == 10) ≡ false
not_feed x c h k = ap (λ n. n == 10) (eqb-true x c h) ∙ k

drop_one : (t : List ℕ) → (head t == 10) ≡ false → has_feed (drop 1 t) ≡ false → has_feed t ≡ false
drop_one [] n h = refl
drop_one (x ∷ xs) n h = or_false (x == 10) (has_feed xs) n h

digit_not_feed : (x : ℕ) → is_ascii_digit x ≡ true → (x == 10) ≡ false
digit_not_feed x h = grind (arith, nat_tests)

drop_more : (n x : ℕ) (xs : List ℕ) → drop (1 + n) (x ∷ xs) ≡ drop n xs
drop_more n x xs = let more : 1 + n ≡ suc n = omega arith in rw more

digits_kept : (t : List ℕ) → has_feed (drop (prefix_len is_ascii_digit t) t) ≡ false → has_feed t ≡ false
digits_kept [] h = refl
digits_kept (x ∷ xs) h = by (λ k. digits_kept xs k) (is_ascii_digit x) (λ e. e) h where
  by : (has_feed (drop (prefix_len is_ascii_digit xs) xs) ≡ false → has_feed xs ≡ false)
      → (b : Bool) → (b ≡ true → is_ascii_digit x ≡ true) → has_feed (drop (cond b (1 + prefix_len is_ascii_digit xs) 0) (x ∷ xs)) ≡ false → has_feed (x ∷ xs) ≡ false
  by kept true e k = or_false (x == 10) (has_feed xs) (digit_not_feed x (e refl)) (kept (ap has_feed (sym (drop_more (prefix_len is_ascii_digit xs) x xs)) ∙ k))
  by kept false e k = k

digits_clean : (t : List ℕ) → Clean (after_digits t) → has_feed t ≡ false
digits_clean t = by (prefix_len is_ascii_digit t == 0) where
  by : (b : Bool) → Clean (cond b None (Some (drop (prefix_len is_ascii_digit t) t))) → has_feed t ≡ false
  by true h = absurd h
  by false h = digits_kept t h

one_or_none : (b : Bool) (t : List ℕ) → (b ≡ true → (head t == 10) ≡ false) → has_feed (cond b (drop 1 t) t) ≡ false → has_feed t ≡ false
one_or_none true t e h = drop_one t (e refl) h
one_or_none false t e h = h

minus_clean : (t : List ℕ) → has_feed (after_minus t) ≡ false → has_feed t ≡ false
minus_clean t = one_or_none (head t == 45) t (λ e. not_feed (head t) 45 e refl)

either_not_feed : (x c d : ℕ) → ((x == c) || (x == d)) ≡ true → (c == 10) ≡ false → (d == 10) ≡ false → (x == 10) ≡ false
either_not_feed x c d h k l = by (x == c) (λ e. e) h where
  by : (b : Bool) → (b ≡ true → (x == c) ≡ true) → (b || (x == d)) ≡ true → (x == 10) ≡ false
  by true e p = not_feed x c (e refl) k
  by false e p = not_feed x d p l

sign_clean : (t : List ℕ) → has_feed (after_sign t) ≡ false → has_feed t ≡ false
sign_clean t = one_or_none ((head t == 45) || (head t == 43)) t (λ e. either_not_feed (head t) 45 43 e refl refl)

whole_clean : (t : List ℕ) → Clean (after_whole t) → has_feed t ≡ false
whole_clean t = by (head t == 48) (λ e. e) where
  by : (b : Bool) → (b ≡ true → (head t == 48) ≡ true) → Clean (cond b (Some (drop 1 t)) (after_digits t)) → has_feed t ≡ false
  by true e h = drop_one t (not_feed (head t) 48 (e refl) refl) h
  by false e h = digits_clean t h

fraction_clean : (t : List ℕ) → Clean (after_fraction t) → has_feed t ≡ false
fraction_clean t = by (head t == 46) (λ e. e) where
  by : (b : Bool) → (b ≡ true → (head t == 46) ≡ true) → Clean (cond b (after_digits (drop 1 t)) (Some t)) → has_feed t ≡ false
  by true e h = drop_one t (not_feed (head t) 46 (e refl) refl) (digits_clean (drop 1 t) h)
  by false e h = h

exponent_clean : (t : List ℕ) → Clean (after_exponent t) → has_feed t ≡ false
exponent_clean t = by ((head t == 101) || (head t == 69)) (λ e. e) where
  by : (b : Bool) → (b ≡ true → ((head t == 101) || (head t == 69)) ≡ true) → Clean (cond b (after_digits (after_sign (drop 1 t))) (Some t)) → has_feed t ≡ false
  by true e h = drop_one t (either_not_feed (head t) 101 69 (e refl) refl refl) (sign_clean (drop 1 t) (digits_clean (after_sign (drop 1 t)) h))
  by false e h = h

number_clean : (t : List ℕ) → IsNumber t → has_feed t ≡ false
unfolding after_number
number_clean t h =
    let whole : Clean (option_and_then after_exponent (option_and_then after_fraction (after_whole (after_minus t)))) = subst Clean (sym h) refl in
    minus_clean t (whole_clean (after_minus t) (then_clean after_fraction fraction_clean _ (then_clean after_exponent exponent_clean _ whole)))

-- ---- texts

letter_clean : (x : ℕ) → (escape_letter x == 10) ≡ false
letter_clean x = by ((x == 34) || (x == 92)) (λ e. e) where
  others : (a b c d e : Bool) → (cond a 98 (cond b 102 (cond c 110 (cond d 114 (cond e 116 0)))) == 10) ≡ false
  others true b c d e = refl
  others false true c d e = refl
  others false false true d e = refl
  others false false false true e = refl
  others false false false false true = refl
  others false false false false false = refl

  by : (b : Bool) → (b ≡ true → ((x == 34) || (x == 92)) ≡ true)
      → (cond b x (cond (x == 8) 98 (cond (x == 12) 102 (cond (x == 10) 110 (cond (x == 13) 114 (cond (x == 9) 116 0))))) == 10) ≡ false
  by true e = either_not_feed x 34 92 (e refl) refl refl
  by false e = others (x == 8) (x == 12) (x == 10) (x == 13) (x == 9)

digit_char_clean : (d : ℕ) → (digit_char d == 10) ≡ false
digit_char_clean d = by (nat_lt d 10) where
  by : (b : Bool) → (cond b (48 + d) (87 + d) == 10) ≡ false
  by true = grind (arith, nat_tests)
  by false = grind (arith, nat_tests)

large_clean : (x : ℕ) → nat_lt x 32 ≡ false → (x == 10) ≡ false
large_clean x h = grind (arith, nat_tests)

byte_clean : (x : ℕ) → has_feed (escape_byte x) ≡ false
unfolding escape_byte
byte_clean x = by (nat_lt 0 (escape_letter x)) (nat_lt x 32) (λ e. e) where
  by : (a b : Bool) → (b ≡ false → nat_lt x 32 ≡ false)
      → has_feed (cond a (92 ∷ escape_letter x ∷ []) (cond b (92 ∷ 117 ∷ 48 ∷ 48 ∷ digit_char (x / 16) ∷ digit_char (x % 16) ∷ []) (x ∷ []))) ≡ false
  by true b e = or_false (escape_letter x == 10) false (letter_clean x) refl
  by false true e = or_false (digit_char (x / 16) == 10) _ (digit_char_clean (x / 16)) (or_false (digit_char (x % 16) == 10) false (digit_char_clean (x % 16)) refl)
  by false false e = or_false (x == 10) false (large_clean x (e refl)) refl

escape_clean : (s : List ℕ) → has_feed (escape s) ≡ false
escape_clean [] = refl
escape_clean (x ∷ xs) = has_feed-append (escape_byte x) (escape xs) (byte_clean x) (escape_clean xs)

quoted_clean : (s : List ℕ) → has_feed (quoted s) ≡ false
quoted_clean s = has_feed-append (escape s) (34 ∷ []) (escape_clean s) refl

-- ---- tokens

token_clean : (t : Token) → IsPrintableOrBad t → has_feed (token_text t) ≡ false
token_clean begin_object h = refl
token_clean end_object h = refl
token_clean begin_array h = refl
token_clean end_array h = refl
token_clean (key s) h = has_feed-append (quoted s) (58 ∷ []) (quoted_clean s) refl
token_clean (string s) h = quoted_clean s
token_clean (number s) h = number_clean s h
token_clean (boolean true) h = refl
token_clean (boolean false) h = refl
token_clean null h = refl
token_clean bad h = refl

separator_clean : (b : Bool) → has_feed (cond b (44 ∷ []) []) ≡ false
separator_clean true = refl
separator_clean false = refl

print_clean : (b : Bool) (ts : List Token) → ArePrintableOrBad ts → has_feed (print_from b ts) ≡ false
unfolding print_from
print_clean b [] h = refl
print_clean b (t ∷ ts) h =
    has_feed-append (separator b t) _ (separator_clean (b && begins t)) (has_feed-append (token_text t) _ (token_clean t h.0) (print_clean (ends t) ts h.1))

-- what is printed as its own tokens has no line feed
pub printed_clean : (text : List ℕ) → text ≡ print (tokens text) → has_feed text ≡ false
printed_clean text h = ap has_feed h ∙ print_clean false (tokens text) (ArePrintableOrBad-tokens text)
