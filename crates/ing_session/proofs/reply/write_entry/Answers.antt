use Rattle.std.proofs.Common.{append_assoc}
use Rattle.ing_session.proofs.reply.write_entry.Goals as goal

pub returns-clause-tokens : goal.returns-clause-tokens
returns-clause-tokens c =
    rw (
      c.in_ok-end_object.ensures.ok,
      c.in_ok-write_text-2.ensures.tokens,
      c.in_ok-write_digits.ensures.tokens,
      c.in_ok-write_text.ensures.tokens,
      c.in_ok-begin_object.ensures.ok,
      c.as_str-2.ensures,
      c.nanoseconds.ensures.value,
      c.as_str.ensures,
    ) (simp append_assoc)
