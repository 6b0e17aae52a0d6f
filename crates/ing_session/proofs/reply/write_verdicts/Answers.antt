use Rattle.std.proofs.Common.{map, append_assoc}
use Rattle.ing_session.specs.Replies.{verdict_data}
use Rattle.ing_session.proofs.WritingLaws.{items_listed}
use Rattle.ing_session.proofs.reply.write_verdicts.Goals as goal

pub returns-clause-tokens : goal.returns-clause-tokens
returns-clause-tokens c = rw (c.in_ok-end_array.ensures.ok, c.in_ok-write_each_verdict.ensures.tokens, c.in_ok-begin_array.ensures.ok, items_listed (map verdict_data c.args.verdicts.now)) (simp append_assoc)
