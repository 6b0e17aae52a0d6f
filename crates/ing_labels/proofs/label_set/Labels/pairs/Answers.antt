use Rattle.std.proofs.Common.{ap, drop, ◌∙◌}
use Rattle.std.specs.FinMap.{entries}
use Rattle.ing_labels.specs.Pieces.{pairs_of}
use Rattle.ing_labels.specs.Held.{held_map}
use Rattle.ing_labels.proofs.PiecesLaws.{pairs_of-named_texts}
use Rattle.ing_labels.proofs.label_set.Labels.pairs.Goals as goal

pub returns-clause-pairs : goal.returns-clause-pairs
returns-clause-pairs c =
    c.after_first.ensures
    ∙ ap (λ ps. pairs_of (drop 1 ps)) (c.deref.ensures ∙ c.self.invariant.pieces)
    ∙ pairs_of-named_texts (entries (held_map c.self.inside))
    ∙ ap entries c.self.view_is
