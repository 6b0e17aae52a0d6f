use Rattle.std.proofs.Common.{arith}
use Rattle.std.proofs.lemmas.Map.Text.{text_keys}
use Rattle.ing_limits.proofs.settings.put_rules.Goals as goal

pub returns : goal.returns
returns c = λ name. grind (arith, text_keys)
