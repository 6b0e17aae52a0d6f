use Rattle.std.proofs.Common.{◌≡◌, ◌+◌, true, All, take, drop}
use Rattle.ing_rows.specs.Texts.{is_digit}
use Rattle.ing_limits.specs.Durations.{digit_count}
use Rattle.ing_limits.proofs.duration.digit_count.Given as goal

abbrev pub invariant-loop-at : goal.invariant-loop-at
invariant-loop-at l = record {
  counted : l.at + digit_count (drop l.at l.text) ≡ digit_count l.text;
  digits : All (λ d. is_digit d ≡ true) (take l.at l.text);
}
