use Rattle.std.proofs.Common.{◌<◌, [], length, get_or, sym, ap, subst, ◌∙◌}
use Rattle.std.specs.String.{string_bytes}
use Rattle.ing_labels.proofs.PiecesLaws.{length-pieces_from}
use Rattle.ing_labels.proofs.canonical.Pieces.get.Goals as goal

pub piece-requires-clause-within : goal.piece-requires-clause-within
piece-requires-clause-within c =
    subst (λ n. c.args.at < n) (ap length (sym c.self.view_is) ∙ length-pieces_from (string_bytes c.self.inside.text) 0 c.self.inside.ends.items ∙ ap length (sym c.as_slice.ensures.value)) c.requires

pub piece-requires-clause-cut : goal.piece-requires-clause-cut
piece-requires-clause-cut c = rw (c.as_str.ensures.value, c.as_slice.ensures.value) c.self.invariant

pub returns : goal.returns
returns c =
    c.piece.ensures ∙ rw (c.as_str.ensures.value, c.as_slice.ensures.value) (ap (λ ps. get_or ps c.args.at []) c.self.view_is)
