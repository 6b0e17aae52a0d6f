-- What a `Labels` holds of its map.
use Rattle.std.proofs.Common.{◌≡◌, List, ◌∷◌, drop, sym, ap, subst, ◌∙◌}
use Rattle.std.specs.FinMap.{entries, from_sorted}
use Rattle.ing_labels.specs.Labels.{Pair, IsLabelSet, AreLabels}
use Rattle.ing_labels.specs.Canonical.{written_pairs}
use Rattle.ing_labels.specs.Pieces.{named_texts, pairs_of}
use Rattle.ing_labels.specs.Held.{pieces_of, held_map, IsHeld}
use Rattle.ing_labels.proofs.PiecesLaws.{pairs_of-named_texts}
use Rattle.ing_labels.specs.declared.label_set.Labels.TheInside.{Inside}

-- the texts of labels that are written in order
pub held_labels : (a : Inside) (ps : List Pair) → AreLabels ps → a.pieces.value ≡ written_pairs ps ∷ named_texts ps → IsHeld a × (held_map a ≡ from_sorted ps)
held_labels a ps labels is =
    let same : held_map a ≡ from_sorted ps = ap (λ x. from_sorted (pairs_of (drop 1 x))) is ∙ ap from_sorted (pairs_of-named_texts ps) in
    let texts : written_pairs ps ∷ named_texts ps ≡ pieces_of (held_map a) = ap (λ es. written_pairs es ∷ named_texts es) (sym labels.in_order ∙ ap entries (sym same)) in
    (record { pieces = is ∙ texts; labels = subst IsLabelSet (sym same) labels.labels }, same)
