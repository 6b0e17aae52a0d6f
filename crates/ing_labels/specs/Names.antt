-- What a label name is.
-- What names no section of the Loki documentation is own.
use Rattle.std.specs.Prelude.{ℕ, Bool, false, ◌||◌, ◌&&◌, nat_le, ◌==◌, List, [], ◌∷◌}
use Rattle.std.specs.List.{list_all}

-- a byte from low to high
abbrev pub is_between : ℕ → ℕ → ℕ → Bool
is_between low high b = nat_le low b && nat_le b high

-- a small letter, a capital letter or `_`
abbrev pub is_name_start : ℕ → Bool
is_name_start b = is_between 97 122 b || is_between 65 90 b || (b == 95)

-- one of these, or a digit
abbrev pub is_name_byte : ℕ → Bool
is_name_byte b = is_name_start b || is_between 48 57 b

-- one byte or more, each a letter, a digit or `_`, the first no digit
abbrev pub is_label_name : List ℕ → Bool
is_label_name [] = false
is_label_name (b ∷ bs) = is_name_start b && list_all is_name_byte bs
