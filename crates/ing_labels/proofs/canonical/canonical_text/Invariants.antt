use Rattle.std.proofs.Common.{◌≡◌, ◌++◌, codes, drop}
use Rattle.std.specs.String.{string_bytes}
use Rattle.std.specs.List.{join_by}
use Rattle.ing_labels.specs.Labels.{texts, with_values}
use Rattle.ing_labels.specs.Canonical.{written_pair}
use Rattle.ing_labels.proofs.Joined.{joined_rest}
use Rattle.ing_labels.proofs.canonical.canonical_text.Given as goal

abbrev pub invariant-loop-name : goal.invariant-loop-name
invariant-loop-name l =
    string_bytes l.text ++ joined_rest l.is_first (with_values (drop l.name-index (texts l.pairs))) ≡ codes "{" ++ join_by written_pair (codes ", ") (with_values (texts l.pairs))
