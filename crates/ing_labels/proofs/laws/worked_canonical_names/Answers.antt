use Rattle.std.proofs.Common.{ℕ, List, [], ◌∷◌, ◌++◌, codes, ap, ◌∙◌}
use Rattle.std.specs.List.{join_by}
use Rattle.std.specs.FinMap.{empty, insert, put, entries-insert}
use Rattle.std.proofs.lemmas.Cmp.{nat_list_cmp_total}
use Rattle.ing_labels.specs.Labels.{name_order, Pair}
use Rattle.ing_labels.specs.Canonical.{written_pair}
use Rattle.ing_labels.proofs.Made.{entries-empty}
use Rattle.ing_labels.proofs.laws.worked_canonical_names.Goals as goal

abbrev in_braces : List Pair → List ℕ
in_braces es = codes "{" ++ join_by written_pair (codes ", ") es ++ codes "}"

pub returns-clause-empty_values_are_absent : goal.returns-clause-empty_values_are_absent
returns-clause-empty_values_are_absent c =
    ap in_braces (
    entries-insert nat_list_cmp_total (insert empty (codes "a") (codes "1")) (codes "b") (codes "2")
    ∙ ap (put name_order (codes "b") (codes "2")) (entries-insert nat_list_cmp_total empty (codes "a") (codes "1") ∙ ap (put name_order (codes "a") (codes "1")) entries-empty))

pub returns-clause-canonical_escapes : goal.returns-clause-canonical_escapes
returns-clause-canonical_escapes c =
    let value = 0x61 ∷ 0x22 ∷ 0x62 ∷ 0x5c ∷ 0x63 ∷ 0x0a ∷ 0x64 ∷ [] in
    ap in_braces (entries-insert nat_list_cmp_total empty (codes "m") value ∙ ap (put name_order (codes "m") value) entries-empty)
