use Rattle.ing_codec.proofs.ExactLaws.{fields_exact}
use Rattle.ing_codec.proofs.laws.fields_are_exact.Goals as goal

pub returns : goal.returns
returns c = fields_exact
