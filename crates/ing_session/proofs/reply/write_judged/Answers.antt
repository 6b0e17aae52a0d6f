use Rattle.std.proofs.Common.{append_assoc}
use Rattle.ing_session.proofs.reply.write_judged.Goals as goal

pub returns-clause-tokens : goal.returns-clause-tokens
returns-clause-tokens c = rw (c.in_ok-end_object.ensures.ok, c.in_ok-write_verdicts.ensures.tokens, c.in_ok-key-2.ensures.ok, c.in_ok-write_text.ensures.tokens, c.in_ok-boolean.ensures.ok, c.in_ok-key.ensures.ok, c.in_ok-begin_object.ensures.ok, c.name.ensures.text) (simp append_assoc)
