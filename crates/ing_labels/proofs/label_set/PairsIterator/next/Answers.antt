use Rattle.std.proofs.Common.{sym, ◌∙◌, arith}
use Rattle.ing_labels.proofs.PiecesLaws.{pairs_end}
use Rattle.ing_labels.proofs.label_set.PairsIterator.next.Goals as goal

pub returns-then-len-self-lt2-clause-steps : goal.returns-then-len-self-lt2-clause-steps
returns-then-len-self-lt2-clause-steps c =
    let none = sym c.self.view_is ∙ pairs_end c.self.inside.pieces.now c.self.inside.at (omega arith) in
    (none, none)
