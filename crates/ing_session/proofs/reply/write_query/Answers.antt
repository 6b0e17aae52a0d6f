use Rattle.std.proofs.Common.{append_assoc}
use Rattle.ing_session.proofs.reply.write_query.Goals as goal

pub returns-clause-tokens : goal.returns-clause-tokens
returns-clause-tokens c =
    rw (
      c.in_ok-end_object.ensures.ok,
      c.in_ok-end_with_next.ensures.tokens,
      c.last_of.ensures,
      c.in_ok-write_fronts.ensures.tokens,
      c.in_ok-write_entries.ensures.tokens,
      c.in_ok-begin_object-2.ensures.ok,
      c.in_ok-key.ensures.ok,
      c.in_ok-begin_object.ensures.ok,
    ) (simp append_assoc)
