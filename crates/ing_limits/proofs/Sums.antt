-- The sum of parts, some of them read.
use Rattle.std.proofs.Common.{IfSome, ◌≡◌, ℕ, zero, suc, ◌+◌, ◌<◌, ◌≤◌, ◌==◌, true, false, List, length, Option, Some, None, option_map, option_and_then, if◌then◌else◌, arith, refl, ap, sym, ◌∙◌, inl, inr}
use Rattle.std.proofs.lemmas.Bool.{cases_Bool}
use Rattle.std.proofs.lemmas.Bool.Decides.{nat_tests}
use Rattle.ing_limits.specs.Durations.{capped, part_at, parts_sum}

-- a sum with what was read before it
abbrev pub ends_with : ℕ → Option ℕ → Option ℕ
ends_with total rest = option_and_then capped (option_map (λ sum. total + sum) rest)

-- the sum of the parts of a text whose first part is known
abbrev pub sum_from : ℕ → Option (ℕ × List ℕ) → Option ℕ
sum_from more first = option_and_then (λ part. if length part.1 == 0 then Some part.0 else option_map (λ rest. part.0 + rest) (parts_sum more part.1)) first

added : (total part : ℕ) (rest : Option ℕ) → ends_with total (option_map (λ sum. part + sum) rest) ≡ ends_with (total + part) rest
added total part None = refl
added total part (Some n) = ap capped (regroup total part n) where
  regroup : (a b c : ℕ) → a + (b + c) ≡ (a + b) + c
  regroup a b c = omega arith

pub capped_below : (n : ℕ) → n < 9223372036854775808 → Some n ≡ capped n
capped_below n h = grind (arith, nat_tests)

pub capped_above : (n : ℕ) → 9223372036854775808 ≤ n → None ≡ capped n
capped_above n h = grind (arith, nat_tests)

-- a sum that has passed the greatest duration stays past it
pub too_long : (total : ℕ) (rest : Option ℕ) → 9223372036854775808 ≤ total → None ≡ ends_with total rest
too_long total None h = refl
too_long total (Some n) h = capped_above (total + n) (omega arith)

-- the last part
pub ended : (total part : ℕ) (after : List ℕ) (text : List ℕ) (more : ℕ) → part_at text ≡ Some (part, after) → (length after == 0) ≡ true → ends_with total (parts_sum (suc more) text) ≡ capped (total + part)
unfolding parts_sum
ended total part after text more h e = ap (λ p. ends_with total (sum_from more p)) h ∙ ap (λ b. ends_with total (if b then Some part else option_map (λ rest. part + rest) (parts_sum more after))) e

-- one part more
pub went_on : (total part : ℕ) (after : List ℕ) (text : List ℕ) (more : ℕ) → part_at text ≡ Some (part, after) → (length after == 0) ≡ false → ends_with total (parts_sum (suc more) text) ≡ ends_with (total + part) (parts_sum more after)
unfolding parts_sum
went_on total part after text more h e =
    ap (λ p. ends_with total (sum_from more p)) h
    ∙ ap (λ b. ends_with total (if b then Some part else option_map (λ rest. part + rest) (parts_sum more after))) e
    ∙ added total part (parts_sum more after)

-- no part at the front
pub no_part : (total : ℕ) (text : List ℕ) (more : ℕ) → part_at text ≡ None → ends_with total (parts_sum more text) ≡ None
unfolding parts_sum
no_part total text zero h = refl
no_part total text (suc more) h = ap (λ p. ends_with total (sum_from more p)) h

-- a part that is too long alone
pub long_part : (total part : ℕ) (after : List ℕ) (text : List ℕ) (more : ℕ) → part_at text ≡ Some (part, after) → 9223372036854775808 ≤ total + part → ends_with total (parts_sum more text) ≡ None
unfolding parts_sum
long_part total part after text zero h e = refl
long_part total part after text (suc more) h e =
    elim (cases_Bool (length after == 0)) [
      | inl last ↦ ended total part after text more h last ∙ sym (capped_above (total + part) e)
      | inr longer ↦ went_on total part after text more h longer ∙ sym (too_long (total + part) (parts_sum more after) e)
    ]

-- no part, or one that is too long alone
pub refused_part : (total : ℕ) (text : List ℕ) (more : ℕ) (first : Option (ℕ × List ℕ)) → part_at text ≡ first → IfSome first (λ part. 18446744073709551616 ≤ part.0) → ends_with total (parts_sum more text) ≡ None
refused_part total text more None h e = no_part total text more h
refused_part total text more (Some p) h e = long_part total p.0 p.1 text more h (omega (arith, e))
