use Rattle.std.proofs.Common.{append_assoc}
use Rattle.ing_session.proofs.reply.write_counts.Goals as goal

pub returns-clause-tokens : goal.returns-clause-tokens
returns-clause-tokens c = rw (c.in_ok-end_object.ensures.ok, c.in_ok-write_count-2.ensures.tokens, c.in_ok-write_count.ensures.tokens, c.in_ok-begin_object.ensures.ok) (simp append_assoc)
