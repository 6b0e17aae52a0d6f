use Rattle.std.proofs.Common.{arith, append-nil}
use Rattle.std.proofs.lemmas.Map.Text.{text_keys}
use Rattle.ing_postings.proofs.postings.post_one.Goals as goal

pub returns-in-Some-clause-posted : goal.returns-in-Some-clause-posted
returns-in-Some-clause-posted c = λ n v. grind (arith, text_keys, append-nil, c.post_in.ensures.posted v)

pub returns-in-Some-clause-kept : goal.returns-in-Some-clause-kept
returns-in-Some-clause-kept c = λ n v. grind (arith, text_keys, c.post_in.ensures.kept v)
