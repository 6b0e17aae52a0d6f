use Rattle.std.proofs.Common.{arith}
use Rattle.ing_postings.proofs.Walked.{first_in}
use Rattle.ing_postings.proofs.postings.begins_with.Goals as goal

pub returns-in-len1-up : goal.returns-in-len1-up
returns-in-len1-up c = first_in c.args.list.now c.args.place (omega arith) c.requires.rising c.requires.above
