use Rattle.std.proofs.Common.{map, append_assoc}
use Rattle.serde_json.specs.Data.{boolean}
use Rattle.ing_session.proofs.WritingLaws.{items_listed}
use Rattle.ing_session.proofs.reply.write_checkpoint.Goals as goal

pub returns-clause-tokens : goal.returns-clause-tokens
returns-clause-tokens c = rw (c.in_ok-end_object.ensures.ok, c.in_ok-end_array.ensures.ok, c.in_ok-write_each_boolean.ensures.tokens, c.in_ok-begin_array.ensures.ok, c.in_ok-key.ensures.ok, c.in_ok-begin_object.ensures.ok, items_listed (map boolean c.args.shards.now)) (simp append_assoc)
