use Rattle.std.proofs.Common.{get_or, sym, ◌∙◌}
use Rattle.std.proofs.lemmas.Str.{IsCharBoundary-start}
use Rattle.ing_labels.proofs.PiecesLaws.{CutAt, piece_at, cut_at}
use Rattle.ing_labels.proofs.canonical.piece.Goals as goal

pub range-requires : goal.range-requires
range-requires c =
    let cut : CutAt c.args.text.now c.start_of-from.result (get_or c.args.ends.now c.args.at 0) = rw c.start_of-from.ensures (cut_at c.args.text.now 0 c.args.ends.now c.args.at c.requires.within (IsCharBoundary-start c.args.text.now c.utf8.text) c.requires.cut) in
    record { start_le_end = cut.rises; start_boundary = λ _. cut.start; end_boundary = cut.end }

pub returns : goal.returns
returns c = c.range.ensures.value ∙ rw c.start_of-from.ensures (sym (piece_at c.args.text.now 0 c.args.ends.now c.args.at c.requires.within))
