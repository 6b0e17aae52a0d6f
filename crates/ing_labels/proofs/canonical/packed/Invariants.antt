use Rattle.std.proofs.Common.{◌≡◌, ◌++◌, ◌∷◌, drop}
use Rattle.std.specs.String.{string_bytes}
use Rattle.ing_labels.specs.Labels.{texts, with_values}
use Rattle.ing_labels.specs.Pieces.{named_texts}
use Rattle.ing_labels.proofs.canonical.packed.Given as goal

abbrev pub invariant-loop-name : goal.invariant-loop-name
invariant-loop-name l =
    l.pieces ++ named_texts (with_values (drop l.name-index (texts l.pairs))) ≡ string_bytes l.fn.name ∷ named_texts (with_values (texts l.pairs))
