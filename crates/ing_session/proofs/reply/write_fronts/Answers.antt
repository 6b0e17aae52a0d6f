use Rattle.std.proofs.Common.{map, append_assoc}
use Rattle.ing_session.specs.Replies.{count}
use Rattle.ing_session.proofs.WritingLaws.{items_listed}
use Rattle.ing_session.proofs.reply.write_fronts.Goals as goal

pub returns-clause-tokens : goal.returns-clause-tokens
returns-clause-tokens c = rw (c.in_ok-end_array.ensures.ok, c.in_ok-write_each_front.ensures.tokens, c.in_ok-begin_array.ensures.ok, c.in_ok-key.ensures.ok, items_listed (map count c.args.fronts.now)) (simp append_assoc)
