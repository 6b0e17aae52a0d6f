use Rattle.std.proofs.Common.{sym, ap, ◌∙◌, length}
use Rattle.std.specs.String.{string_bytes}
use Rattle.ing_labels.proofs.PiecesLaws.{length-pieces_from}
use Rattle.ing_labels.proofs.canonical.Pieces.len.Goals as goal

pub returns : goal.returns
returns c = ap length c.as_slice.ensures.value ∙ sym (length-pieces_from (string_bytes c.self.inside.text) 0 c.self.inside.ends.items) ∙ ap length c.self.view_is
