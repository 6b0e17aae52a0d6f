-- What a tenant id is, and which stamp a text spells.
-- What names no section of the Loki documentation is own.
use Rattle.std.specs.Prelude.{ℕ, ◌+◌, ◌-◌, ◌*◌, ◌^◌, Bool, not, ◌&&◌, ◌||◌, ◌==◌, List, [], ◌∷◌, length, codes, bytes_eq, nat_lt, nat_le, if◌then◌else◌, Option, Some, None}
use Rattle.std.specs.List.{list_all, list_any}

abbrev pub is_digit : ℕ → Bool
is_digit c = nat_le 48 c && nat_le c 57

abbrev pub is_letter : ℕ → Bool
is_letter c = (nat_le 65 c && nat_le c 90) || (nat_le 97 c && nat_le c 122)

-- an ASCII letter or digit, or one of !-_.*'() (Loki documentation: multi-tenancy)
abbrev pub is_tenant_byte : ℕ → Bool
is_tenant_byte c = is_letter c || is_digit c || list_any (λ m. m == c) (codes "!-_.*'()")

-- 1 to 150 such bytes, and neither of the two names that a folder has for itself and its parent
abbrev pub is_tenant : List ℕ → Bool
is_tenant text = nat_lt 0 (length text) && nat_le (length text) 150 && list_all is_tenant_byte text && not (bytes_eq text (codes ".")) && not (bytes_eq text (codes ".."))

-- the number that digits spell, each at its place
abbrev pub digits_value : List ℕ → ℕ
digits_value [] = 0
digits_value (d ∷ ds) = (d - 48) * 10 ^ length ds + digits_value ds

-- 1 to 19 digits of a number up to 2^63-1, in nanoseconds (Loki documentation: push API; the range is own)
abbrev pub stamp_of : List ℕ → Option ℕ
stamp_of text = if nat_lt 0 (length text) && nat_le (length text) 19 && list_all is_digit text && nat_lt (digits_value text) (2 ^ 63) then Some (digits_value text) else None
