-- How many bytes a canonical name has at most.
use Rattle.std.proofs.Common.{◌≡◌, ◌≤◌, ℕ, ◌+◌, ◌*◌, nat_le, true, List, [], ◌∷◌, ◌++◌, length, length-append, codes, arith}
use Rattle.std.specs.List.{flat_map, join_by, list_all}
use Rattle.std.specs.FinMap.{entries, len-entries}
use Rattle.std.proofs.lemmas.Bool.{and_parts}
use Rattle.std.proofs.lemmas.Nat.{mul-le}
use Rattle.ing_labels.specs.declared.fault.LabelLimits.{LabelLimits}
use Rattle.ing_labels.specs.Labels.{LabelMap, Pair, KeepsLimits}
use Rattle.ing_labels.specs.Canonical.{written_byte, written_value, written_pair, canonical_of}

byte_length : (b : ℕ) → length (written_byte b) ≤ 2
byte_length b = grind arith

value_length : (v : List ℕ) → length (written_value v) ≤ 2 * length v
value_length [] = omega arith
value_length (b ∷ bs) = omega (arith, length-append (written_byte b) (written_value bs), byte_length b, value_length bs)

at_most : (n most : ℕ) → nat_le n most ≡ true → n ≤ most
at_most n most e = grind arith

-- a pair has its name, its value, and three bytes around them
pair_length : (p : Pair) (name value : ℕ) → length p.0 ≤ name → length p.1 ≤ value → length (written_pair p) ≤ name + 2 * value + 3
pair_length p name value short_name short_value =
    simp length-append (omega (arith, value_length p.1))

-- no name and no value is longer
abbrev AreShort : ℕ → ℕ → List Pair → Type 0
AreShort name value ps =
    (list_all (λ e. nat_le (length e.0) name) ps ≡ true)
    × (list_all (λ e. nat_le (length e.1) value) ps ≡ true)

-- the pairs after the first, each with a comma and a space before it
rest_length : (name value : ℕ) (ps : List Pair) → AreShort name value ps → length (flat_map (λ p. codes ", " ++ written_pair p) ps) ≤ length ps * (name + 2 * value + 5)
rest_length name value [] short = omega arith
rest_length name value (p ∷ ps) short =
    let names = and_parts _ _ short.0 in
    let values = and_parts _ _ short.1 in
    let first = pair_length p name value (at_most _ _ names.0) (at_most _ _ values.0) in
    let rest = rest_length name value ps (names.1, values.1) in
    omega (arith, length-append (codes ", " ++ written_pair p) (flat_map (λ p. codes ", " ++ written_pair p) ps))

-- all pairs
joined_length : (name value : ℕ) (ps : List Pair) → AreShort name value ps → length (join_by written_pair (codes ", ") ps) ≤ length ps * (name + 2 * value + 5)
joined_length name value [] short = omega arith
joined_length name value (p ∷ ps) short =
    let rest = flat_map (λ q. codes ", " ++ written_pair q) ps in
    let with_comma = rest_length name value (p ∷ ps) short in
    omega (arith, length-append (codes ", " ++ written_pair p) rest, length-append (written_pair p) rest)

pub name_length : (limits : LabelLimits) (m : LabelMap) → KeepsLimits limits m → length (canonical_of m) ≤ 2 + limits.names * (limits.name_bytes + 2 * limits.value_bytes + 5)
name_length limits m keeps =
    let pairs = joined_length limits.name_bytes limits.value_bytes (entries m) (keeps.names, keeps.values) in
    let few : length (entries m) ≤ limits.names = omega (arith, len-entries m, keeps.count) in
    let in_all = mul-le (length (entries m)) (limits.name_bytes + 2 * limits.value_bytes + 5) limits.names (limits.name_bytes + 2 * limits.value_bytes + 5) few (omega arith) in
    omega (arith, length-append (join_by written_pair (codes ", ") (entries m)) (codes "}"))
