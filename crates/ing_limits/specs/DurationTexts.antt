-- Durations as lists of parts (Loki documentation: configuration file, `<duration>`; the units, the number of digits and the
-- greatest duration are own).
use Rattle.std.specs.Prelude.{◌≡◌, ◌≢◌, ◌↔◌, ◌<◌, ◌*◌, ◌+◌, ◌^◌, ◌&&◌, nat_lt, nat_le, ℕ, Bool, true, List, [], ◌∷◌, ◌++◌, length, codes, Some}
use Rattle.std.specs.List.{list_all}
use Rattle.ing_rows.specs.Texts.{is_digit, digits_value}
use Rattle.ing_limits.specs.Durations.{duration_of}

pub data Unit : Type 0 where
  hours : Unit
  minutes : Unit
  seconds : Unit
  milliseconds : Unit
  microseconds : Unit
  nanoseconds : Unit

abbrev pub unit_text : Unit → List ℕ
unit_text hours = codes "h"
unit_text minutes = codes "m"
unit_text seconds = codes "s"
unit_text milliseconds = codes "ms"
unit_text microseconds = codes "us"
unit_text nanoseconds = codes "ns"

abbrev pub unit_nanoseconds : Unit → ℕ
unit_nanoseconds hours = 3600000000000
unit_nanoseconds minutes = 60000000000
unit_nanoseconds seconds = 1000000000
unit_nanoseconds milliseconds = 1000000
unit_nanoseconds microseconds = 1000
unit_nanoseconds nanoseconds = 1

-- a part of a duration: digits and a unit
pub record Part : Type 0 where
  pub digits : List ℕ
  pub unit : Unit

-- 1 to 19 digits
abbrev pub is_part : Part → Bool
is_part p = (nat_lt 0 (length p.digits) && nat_le (length p.digits) 19) && list_all is_digit p.digits

abbrev pub part_text : Part → List ℕ
part_text p = p.digits ++ unit_text p.unit

abbrev pub part_nanoseconds : Part → ℕ
part_nanoseconds p = digits_value p.digits * unit_nanoseconds p.unit

-- the text of parts, one behind another
abbrev pub parts_text : List Part → List ℕ
parts_text [] = []
parts_text (p ∷ ps) = part_text p ++ parts_text ps

-- the nanoseconds of parts together
abbrev pub nanoseconds_of : List Part → ℕ
nanoseconds_of [] = 0
nanoseconds_of (p ∷ ps) = part_nanoseconds p + nanoseconds_of ps

-- one or more parts, below 2^63 nanoseconds together, have this text and these nanoseconds
pub record IsDuration (text : List ℕ) (n : ℕ) (ps : List Part) : Type 0 where
  pub some : ps ≢ []
  pub parts : list_all is_part ps ≡ true
  pub spelt : parts_text ps ≡ text
  pub sum : nanoseconds_of ps ≡ n
  pub below : n < 2 ^ 63

-- a text is read as a number exactly where parts with this text have it
abbrev pub DurationsAreExact : Type 0
DurationsAreExact = (text : List ℕ) (n : ℕ) → (duration_of text ≡ Some n) ↔ ((ps : List Part) × IsDuration text n ps)
