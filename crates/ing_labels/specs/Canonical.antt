-- The canonical name of a label map: `{a="x", b="y"}`.
-- What names no section of the Loki documentation is own.
use Rattle.std.specs.Prelude.{◌≡◌, ◌↔◌, ◌≤◌, ℕ, ◌+◌, ◌*◌, Bool, ◌||◌, List, [], ◌∷◌, ◌++◌, length, codes, ◌==◌, if◌then◌else◌}
use Rattle.std.specs.List.{flat_map, join_by}
use Rattle.std.specs.FinMap.{entries}
use Rattle.ing_labels.specs.declared.fault.LabelLimits.{LabelLimits}
use Rattle.ing_labels.specs.Labels.{LabelMap, Pair, HasLabelNames, KeepsLimits}

-- a byte of a value as it is written: a backslash, a quote and a line feed are escaped, nothing else is
abbrev pub written_byte : ℕ → List ℕ
written_byte b =
    if b == 92 then codes "\\\\" else
    if b == 34 then codes "\\\"" else
    if b == 10 then codes "\\n" else
    b ∷ []

-- a backslash, a quote or a line feed
abbrev pub is_escaped : ℕ → Bool
is_escaped b = b == 92 || b == 34 || b == 10

-- a value as it is written
abbrev pub written_value : List ℕ → List ℕ
written_value = flat_map written_byte

-- a pair as it is written: `a="x"`
abbrev pub written_pair : Pair → List ℕ
written_pair p = p.0 ++ codes "=\"" ++ written_value p.1 ++ codes "\""

-- pairs as they are written: apart by a comma and a space, in braces
abbrev pub written_pairs : List Pair → List ℕ
written_pairs ps = codes "{" ++ join_by written_pair (codes ", ") ps ++ codes "}"

-- the canonical name: the pairs in byte order of their names, as they are written
abbrev pub canonical_of : LabelMap → List ℕ
canonical_of m = written_pairs (entries m)

-- two label maps of label names have equal canonical names exactly where they are equal
abbrev pub CanonicalNamesAreExact : Type 0
CanonicalNamesAreExact =
    (m n : LabelMap) → HasLabelNames m → HasLabelNames n → (canonical_of m ≡ canonical_of n) ↔ (m ≡ n)

-- a canonical name has at most so many bytes: two braces, and for each label its name, its value with each byte
-- escaped at most, and five bytes around them
abbrev pub CanonicalNamesAreShort : Type 0
CanonicalNamesAreShort =
    (limits : LabelLimits) (m : LabelMap) → KeepsLimits limits m
    → length (canonical_of m) ≤ 2 + limits.names * (limits.name_bytes + 2 * limits.value_bytes + 5)
