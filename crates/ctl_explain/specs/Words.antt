-- Which refusal a word names (own).
use Rattle.std.specs.Prelude.{◌≡◌, ◌⊎◌, ℕ, List}
use Rattle.std.specs.Str.Parse.{IsNumeral, digits_value, without_leading_plus}
use Rattle.ing_refusals.specs.declared.refusal.Refusal.{Refusal}
use Rattle.ing_refusals.specs.Refusals.{refusal_number, refusal_name}

-- decimal digits that write this number, with a plus in front or none
pub record Writes (word : List ℕ) (number : ℕ) : Type 0 where
  pub digits : IsNumeral 10 (without_leading_plus word)
  pub value : digits_value 10 (without_leading_plus word) ≡ number

-- the word is the number or the name of the refusal
abbrev pub Names : List ℕ → Refusal → Type 0
Names word refusal = Writes word (refusal_number refusal) ⊎ (word ≡ refusal_name refusal)
