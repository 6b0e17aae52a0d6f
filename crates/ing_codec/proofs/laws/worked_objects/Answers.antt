use Rattle.ing_codec.proofs.WorkedLaws.{written, read, of_first, read_of_first}
use Rattle.ing_codec.proofs.laws.worked_objects.Goals as goal

pub returns : goal.returns
returns c = record { written = written; read = read; of_first = of_first; read_of_first = read_of_first }
