-- What a duration is in a settings file (Loki documentation: configuration file, `<duration>`; the units, the number of
-- digits and the greatest duration are own).
use Rattle.std.specs.Prelude.{ℕ, zero, suc, ◌+◌, ◌*◌, ◌^◌, ◌&&◌, ◌==◌, nat_lt, nat_le, List, [], ◌∷◌, length, take, drop, slice_index, if◌then◌else◌, Option, Some, None, option_map, option_and_then}
use Rattle.ing_rows.specs.Texts.{is_digit, digits_value}

-- how many digits stand at the front
abbrev pub digit_count : List ℕ → ℕ
digit_count [] = 0
digit_count (b ∷ bs) = if is_digit b then suc (digit_count bs) else 0

-- the unit at the front, `h`, `m`, `s`, `ms`, `us` or `ns`: its nanoseconds and its length. A part ends before a digit, so
-- that `m` before an `s` is always `ms`
abbrev pub unit_at : List ℕ → Option (ℕ × ℕ)
unit_at text =
    let first = slice_index text 0 in
    let second = slice_index text 1 in
    if first == 104 then Some (3600000000000, 1) else
    if first == 115 then Some (1000000000, 1) else
    if first == 109 && second == 115 then Some (1000000, 2) else
    if first == 109 then Some (60000000000, 1) else
    if first == 117 && second == 115 then Some (1000, 2) else
    if first == 110 && second == 115 then Some (1, 2) else None

-- the part at the front, 1 to 19 digits and a unit: its nanoseconds, and the text that follows
abbrev pub part_at : List ℕ → Option (ℕ × List ℕ)
part_at text =
    let digits = digit_count text in
    if nat_lt 0 digits && nat_le digits 19
    then option_map (λ unit. (digits_value (take digits text) * unit.0, drop unit.1 (drop digits text))) (unit_at (drop digits text))
    else None

-- the nanoseconds of one or more parts together, at most as many as the first number
unfoldable pub parts_sum : ℕ → List ℕ → Option ℕ
parts_sum zero text = None
parts_sum (suc more) text =
    option_and_then (λ part. if length part.1 == 0 then Some part.0 else option_map (λ rest. part.0 + rest) (parts_sum more part.1)) (part_at text)

-- a number of nanoseconds up to 2^63-1
abbrev pub capped : ℕ → Option ℕ
capped nanoseconds = if nat_lt nanoseconds (2 ^ 63) then Some nanoseconds else None

-- the nanoseconds of a text of parts; there are no more parts than bytes
abbrev pub duration_of : List ℕ → Option ℕ
duration_of text = option_and_then capped (parts_sum (length text) text)
