-- Digits read from the left have the value of their places.
use Rattle.std.proofs.Common.{◌≡◌, ℕ, suc, ◌+◌, ◌-◌, ◌*◌, ◌^◌, ◌<◌, ◌≤◌, ◌∙◌, ◌&&◌, true, List, ◌∷◌, length, drop, get_or, sym, ap, arith, nat_le, length-drop, drop-cons, add-one}
use Rattle.std.proofs.Math.Nat.{pow-suc, pow-le-pow_right}
use Rattle.std.proofs.lemmas.Bool.Decides.{nat_tests}
use Rattle.ing_rows.specs.Texts.{is_digit, digits_value}

both_le : (a b c d : ℕ) → (nat_le a b && nat_le c d) ≡ true → (a ≤ b) × (c ≤ d)
both_le a b c d h = grind (arith, nat_tests)

pub digit_range : (c : ℕ) → is_digit c ≡ true → (48 ≤ c) × (c ≤ 57)
digit_range c h = both_le 48 c c 57 h

-- the number so far, one digit more
pub value_step : (v : ℕ) (digits : List ℕ) (i : ℕ) → i < length digits
    → v * 10 ^ (length digits - i) + digits_value (drop i digits) ≡ (v * 10 + (get_or digits i 0 - 48)) * 10 ^ (length digits - (i + 1)) + digits_value (drop (i + 1) digits)
value_step v digits i h =
    let d = get_or digits i 0 - 48 in
    let left = length digits - (i + 1) in
    let p = 10 ^ left in
    let rest = digits_value (drop (i + 1) digits) in
    let one_more : length digits - i ≡ suc left = omega arith in
    let power : 10 ^ (length digits - i) ≡ p * 10 = ap (λ k. 10 ^ k) one_more ∙ pow-suc 10 left in
    let after : length (drop (i + 1) digits) ≡ left = length-drop (i + 1) digits in
    let front : drop i digits ≡ get_or digits i 0 ∷ drop (i + 1) digits = drop-cons digits i 0 h ∙ ap (λ k. get_or digits i 0 ∷ drop k digits) (sym (add-one i)) in
    let value : digits_value (drop i digits) ≡ d * p + rest = ap digits_value front ∙ ap (λ k. d * 10 ^ k + rest) after in
    ap (λ k. v * k + digits_value (drop i digits)) power ∙ ap (λ k. v * (p * 10) + k) value ∙ regroup v d p rest where
      regroup : (a b c r : ℕ) → a * (c * 10) + (b * c + r) ≡ (a * 10 + b) * c + r
      regroup a b c r = omega arith

pub small_step : (v d i : ℕ) → v < 10 ^ i → d ≤ 9 → v * 10 + d < 10 ^ (i + 1)
small_step v d i h k = let power : 10 ^ (i + 1) ≡ 10 ^ i * 10 = ap (λ j. 10 ^ j) (add-one i) ∙ pow-suc 10 i in omega arith

pub below_stamp : (v i : ℕ) → v < 10 ^ i → i ≤ 18 → v < 1000000000000000000
below_stamp v i h k = let ten : 0 < 10 = omega arith in let power : 10 ^ i ≤ 10 ^ 18 = pow-le-pow_right ten k in omega arith
