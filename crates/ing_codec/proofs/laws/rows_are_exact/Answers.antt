use Rattle.ing_codec.proofs.RowLaws.{row_takes, row_again}
use Rattle.ing_codec.proofs.laws.rows_are_exact.Goals as goal

pub returns : goal.returns
returns c = record { each = row_again; only = row_takes }
