use Rattle.std.proofs.Common.{ap, ◌∷◌, ◌∙◌}
use Rattle.ing_labels.specs.Labels.{texts, with_values}
use Rattle.ing_labels.specs.Pieces.{named_texts}
use Rattle.ing_labels.proofs.HeldLaws.{held_labels}
use Rattle.ing_labels.proofs.label_set.Labels.in_order.Goals as goal

pub invariant_of-result : goal.invariant_of-result
invariant_of-result c =
    let ps = with_values (texts c.args.pairs.now) in
    (held_labels (record { pieces = c.in_ok-pieces.pieces }) ps c.requires (c.in_ok-pieces.ensures.ok ∙ c.in_ok-packed.ensures ∙ ap (λ s. s ∷ named_texts ps) c.in_ok-name.ensures)).0

pub returns : goal.returns
returns c =
    let ps = with_values (texts c.args.pairs.now) in
    (held_labels (record { pieces = c.in_ok-pieces.pieces }) ps c.requires (c.in_ok-pieces.ensures.ok ∙ c.in_ok-packed.ensures ∙ ap (λ s. s ∷ named_texts ps) c.in_ok-name.ensures)).1
