-- The canonical names of streams that a session lists are short.
use Rattle.std.proofs.Common.{◌+◌, ◌*◌, ◌^◌, ◌<◌, ◌≤◌, length, arith}
use Rattle.std.proofs.lemmas.Nat.{mul-le}
use Rattle.ing_labels.specs.Labels.{LabelMap, KeepsLimits}
use Rattle.ing_labels.specs.Canonical.{canonical_of, CanonicalNamesAreShort}
use Rattle.ing_rows.specs.declared.rules.Rules.{Rules}
use Rattle.ing_limits.specs.Ranges.{AreRulesInRange}
use Rattle.ing_session.specs.Faults.{limits_of}

pub short_name : (rules : Rules) (m : LabelMap) → CanonicalNamesAreShort → AreRulesInRange rules → KeepsLimits (limits_of rules) m → length (canonical_of m) < 2 ^ 32
short_name rules m are_short range keeps =
    let bound = are_short (limits_of rules) m keeps in
    let name = range.limits.label_name_length in
    let value = range.limits.label_value_length in
    let of_pair : rules.max_label_name_length + 2 * rules.max_label_value_length + 5 ≤ 5125 = omega arith in
    let all = mul-le rules.max_label_names _ 64 5125 range.limits.label_names.1 of_pair in
    omega arith
