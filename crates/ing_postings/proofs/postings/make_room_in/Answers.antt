use Rattle.std.proofs.Common.{arith}
use Rattle.std.proofs.lemmas.Map.Text.{text_keys}
use Rattle.ing_postings.proofs.postings.make_room_in.Goals as goal

pub returns-in-Some-clause-same : goal.returns-in-Some-clause-same
returns-in-Some-clause-same c = λ q. grind (arith, text_keys)

pub returns-in-Some-clause-kept : goal.returns-in-Some-clause-kept
returns-in-Some-clause-kept c = λ q. grind (arith, text_keys)

pub returns-clause-same : goal.returns-clause-same
returns-clause-same c = λ q. grind (arith, text_keys)

pub returns-clause-kept : goal.returns-clause-kept
returns-clause-kept c = λ q. grind (arith, text_keys)
