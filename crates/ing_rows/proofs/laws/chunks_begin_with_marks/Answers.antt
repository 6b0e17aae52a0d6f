use Rattle.ing_rows.proofs.StartLaws.{turns_begin}
use Rattle.ing_rows.proofs.laws.chunks_begin_with_marks.Goals as goal

pub returns : goal.returns
returns c = turns_begin
